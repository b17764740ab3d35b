use Rattle.textwrap_words.proofs.cut_pieces.CutPieces.begin_word.Goals as goal
use Rattle.textwrap_text.proofs.Common.{IsUtf8-between, if◌then◌else◌, slice_range, IsUtf8, length}
use Rattle.textwrap_text.proofs.Common.{IsCharBoundary-start, arith, subst, ◌++◌, sym, ◌-◌, ◌<◌, ◌≡◌, [], ap}
use Rattle.textwrap_words.proofs.Common.{pieces_within, length-slice, as_splitter, empty_front}
use Rattle.textwrap_words.proofs.Common.{parts_after, stand_from}
use Rattle.textwrap_words.proofs.Word.SplitParts.{within-none, words-first}

pub returns-clause-left : goal.returns-clause-left
returns-clause-left c =
    let self = c.args.self.now in
    let text = self.text.now in
    let splitter = as_splitter self.splitter in
    let limit = self.limit in
    let (end, later) = c.next_end-end.result in
    let found = c.next_end-end.ensures in
    let word = slice_range text self.end end in
    let last = slice_range text self.start self.end in
    let front = if self.has_front then empty_front else [] in
    let utf8 = subst IsUtf8 c.as_bytes.ensures.value c.as_bytes.ensures.utf8 in
    let some : 0 < length word =
    omega (arith, found.some, length-slice text self.end end found.boundary.0) in
    let none : pieces_within splitter limit last (self.at - self.start) ≡ [] =
    within-none splitter limit last (self.at - self.start)
    (omega (arith, length-slice text self.start self.end self.ends.0, c.requires.done)) in
    let start : self.at - self.end ≡ 0 = omega (arith, c.requires.done) in
    rw (start, none, found.parts) (ap (λ ws. stand_from self.at (front ++ ws))
    (sym (words-first splitter limit word (parts_after end later.now text)
    (IsUtf8-between text self.end end utf8 (omega (arith, found.some)) self.ends found.boundary) some)))

pub invariant_of-self : goal.invariant_of-self
invariant_of-self c =
    let self = c.args.self.now in
    let text = self.text.now in
    let end = c.next_end-end.result.0 in
    let found = c.next_end-end.ensures in
    let utf8 = subst IsUtf8 c.as_bytes.ensures.value c.as_bytes.ensures.utf8 in
    let start : self.at - self.end ≡ 0 = omega (arith, c.requires.done) in
    record {
      starts = self.ends;
      ends = found.boundary;
      order = omega (arith, found.some);
      later = found.later;
      from = omega (arith, c.requires.done);
      boundary = rw start (IsCharBoundary-start (slice_range text self.end end)
          (IsUtf8-between text self.end end utf8 (omega (arith, found.some)) self.ends found.boundary));
      trimmed = rw c.as_bytes.ensures.value at c.trimmed_len-self.ensures.value;
      before_blanks = λ _. omega (arith, start);
    }

pub slice_bounds-trimmed_len-end : goal.slice_bounds-trimmed_len-end
slice_bounds-trimmed_len-end c = omega (
  arith,
  c.next_end-end.ensures.boundary.0,
  c.next_end-end.ensures.some,
  ap length c.as_bytes.ensures.value,
)
