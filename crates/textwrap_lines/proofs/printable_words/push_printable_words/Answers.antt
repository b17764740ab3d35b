use Rattle.textwrap_base.proofs.Division.Grown.{grown, grown-greedy}
use Rattle.textwrap_layout.proofs.Paragraph.Widths.{later_is}
use Rattle.textwrap_layout.specs.Paragraph.{broken_split}
use Rattle.textwrap_lines.proofs.Common.{[], All-take, ap, arith, drop, drop_all, drop_at, drop-drop}
use Rattle.textwrap_lines.proofs.Common.{first_width, frame_settings, front_of, IsCharBoundary-start, IsPrintableByte}
use Rattle.textwrap_lines.proofs.Common.{later_width, length, length-map, map, refl, sizes_of, slice_range, subst, sym}
use Rattle.textwrap_lines.proofs.Common.{tiled, trimmed_len, widths_of, word_of, word_view, ◌++◌, ◌+◌, ◌∙◌, ◌<◌, ◌≡◌}
use Rattle.textwrap_lines.proofs.FullLines.{taken-closed, word-begins}
use Rattle.textwrap_lines.proofs.PrintableTexts.Bytes.{printable-utf8}
use Rattle.textwrap_lines.proofs.PrintableTexts.Pieces.{past-byte, printable-slice}
use Rattle.textwrap_lines.proofs.PrintableWords.{front-seam, front-word, IsTakenTo, taken-fit, TakenTo, words_from}
use Rattle.textwrap_lines.proofs.WordLines.{broken_pieces-front, front-tile, limit-later, taken-end, taken-left, taken-next, taken-start}
use Rattle.textwrap_lines.proofs.printable_words.push_printable_words.Goals as goal
use Rattle.textwrap_lines.proofs.printable_words.push_printable_words.Goals.{After-next_words-end}
use Rattle.textwrap_lines.proofs.printable_words.push_printable_words.Goals.{else-ends, then-ends+in_ok-line}
use Rattle.textwrap_text.proofs.Common.{map_push, ne_eqb}
use Rattle.textwrap_lines.proofs.Common.{Bool, false, get_or, IsMeasured, is_blank, length-take-le, List, true, ℕ, ◌∷◌, ◌^◌, ◌≤◌}
use Rattle.textwrap_lines.specs.WordLines.{with_word}
use Rattle.textwrap_words.proofs.Word.FirstPieces.{parts-front}
use Rattle.textwrap_words.proofs.Word.Words.{word_of-measured}
use Rattle.textwrap_layout.proofs.PrintableTexts.Parts.{first-part}

pub loop-at-init : goal.loop-at-init
loop-at-init g c =
    let settings = frame_settings c.args.frame.now in
    let text = c.args.paragraph.now in
    let start = c.first-line.ensures in
    let front = c.in_ok-held.ensures in record {
      within = omega arith;
      small = rw start.columns (omega arith);
      begins = rw start.start (IsCharBoundary-start text c.utf8.paragraph);
      seam = rw start.start (ap (λ t. t ++ text) (sym (ap tiled front ∙ front-tile settings)));
      taken = taken-start g.S.LineSink.holds settings (g.P.Parts.may c.args.parts.now).Points
          (words_from (g.C.PrintableCuts.cuts c.args.cuts.now text) text 0)
          (first_width settings c.args.frame.now.is_later) c.args.frame.now.is_later c.args.lines.now
          c.first-line.result (map word_view c.in_ok-held.held.items) start.start
          (start.width ∙ c.args.frame.now.first) start.later start.columns front;
      name = refl;
    }

-- what is taken before the words, on the line that they may go on
opened : (g : _) (c : After-next_words-end g)
    → TakenTo g.S.LineSink.holds (frame_settings c.args.frame.now)
    (g.P.Parts.may c.args.parts.now).Points
    (g.C.PrintableCuts.cuts c.args.cuts.now c.args.paragraph.now) c.args.paragraph.now
    c.requires.printable (first_width (frame_settings c.args.frame.now) c.args.frame.now.is_later)
    c.args.frame.now.is_later c.args.lines.now c.if-ends.line (map word_view c.if-ends.held.items)
    c.if-ends.lines c.loop-at.at
opened g c = elim c.if-ends.branch [
  | then-ends+in_ok-line w ↦
      let settings = frame_settings c.args.frame.now in
      let text = c.args.paragraph.now in
      let test = g.C.PrintableCuts.cuts c.args.cuts.now text in
      let bytes = c.as_bytes-text.ensures.value in
      let at = c.loop-at.at in
      let inv = c.loop-at.invariant in
      let held = c.loop-at.held.items in
      let words = map word_view held in
      let ends = c.ends_before-ends.ensures in
      let is = w.if-ends.true in
      let inside : at < length text = rw bytes at c.loop-at-test.true in
      let other : is_blank (get_or text at 0) ≡ false = ne_eqb (get_or text at 0) 32 (rw bytes at (ends.word is)) in
      let found = first-part test text at at (omega arith) inside (λ k from to. absurd (omega (arith, from, to))) in
      let part = slice_range text at found.end in
      let q = word_of part in
      let part_printable = printable-slice text at found.end c.requires.printable in
      let trimmed = past-byte text at at found.end (omega arith) found.past found.part.within other in
      let q_printable = All-take IsPrintableByte (trimmed_len part) part part_printable in
      let some : 0 < length q.word = omega (arith, trimmed, length-take-le (trimmed_len part) part (omega arith)) in
      let next = w.in_ok-line.ensures in
      let closed = taken-closed g.S.LineSink.holds settings (g.P.Parts.may c.args.parts.now).Points
      (words_from test text 0) (first_width settings c.args.frame.now.is_later)
      c.args.frame.now.is_later c.args.lines.now c.loop-at.line w.in_ok-line.line words c.loop-at.lines
      w.close.new.lines q (words_from test text found.end)
      (λ points are. word-begins settings
      (λ breaks. rw c.args.frame.now.later at (ends.room is)) q q_printable some refl points
      (g.met.P.Parts.can_split c.args.parts.now q.word points (printable-utf8 q.word q_printable) are))
      (omega (arith, ends.some is, length-map held word_view)) (ends.full is) next.next next.pushed
      (taken-left g.S.LineSink.holds settings (g.P.Parts.may c.args.parts.now).Points
      (words_from test text 0) (first_width settings c.args.frame.now.is_later)
      c.args.frame.now.is_later (ap (map word_of) (parts-front test text at found.end found.part)) inv.taken) in
      rw (w.line-is, w.held-is, w.lines-is, next.emptied) (record {
        small = rw next.next (omega arith);
        begins = next.begins;
        seam = rw next.next (sym (drop-drop (length (tiled words)) c.loop-at.line.start text)
            ∙ ap (drop (length (tiled words))) inv.seam
            ∙ drop_at (tiled words) (drop at text) (length (tiled words)) refl);
        taken = taken-left g.S.LineSink.holds settings (g.P.Parts.may c.args.parts.now).Points
            (words_from test text 0) (first_width settings c.args.frame.now.is_later)
            c.args.frame.now.is_later (sym (ap (map word_of) (parts-front test text at found.end found.part))) closed;
      })
  | else-ends w ↦ rw (w.line-is, w.held-is, w.lines-is) (record {
    small = c.loop-at.invariant.small;
    begins = c.loop-at.invariant.begins;
    seam = c.loop-at.invariant.seam;
    taken = c.loop-at.invariant.taken;
  })
]

named : (g : _) (c : After-next_words-end g)
    → g.S.LineSink.name c.if-ends.lines ≡ g.S.LineSink.name c.args.lines.now
named g c = elim c.if-ends.branch [
  | then-ends+in_ok-line w ↦ rw w.lines-is (w.in_ok-line.ensures.name ∙ c.loop-at.invariant.name)
  | else-ends w ↦ rw w.lines-is c.loop-at.invariant.name
]

-- where the words end, and what the text is up to there
record Reaches (text : List ℕ) (at : ℕ) (test : ℕ → Bool) (end : ℕ) : Type 0 where
  pub some : at < end
  pub within : end ≤ length text
  pub ends : end < length text → test end ≡ true

reaches : (g : _) (c : After-next_words-end g) → Reaches c.args.paragraph.now c.loop-at.at
    (g.C.PrintableCuts.cuts c.args.cuts.now c.args.paragraph.now) c.next_words-end.result.0
reaches g c =
    let bytes = c.as_bytes-text.ensures.value in
    let found = c.next_words-end.ensures in record {
      some = found.some;
      within = rw bytes at found.within;
      ends = rw bytes at found.cut;
    }

pub take_word-requires : goal.take_word-requires
take_word-requires g c = λ k.
    let here = (goal.at.take_word-requires g c).After-next_words-end in
    let text = c.args.paragraph.now in
    let end = c.next_words-end.result.0 in
    let slice = slice_range text c.loop-at.at end in
    let so_far = opened g here in
    let held = tiled (map word_view c.if-ends.held.items) in
    let some = (reaches g here).some in
    let word : word_view c.from-words.result ≡ word_of slice =
    c.from-words.ensures ∙ ap word_of c.range.ensures.value in (
      (refl, tt),
      (
        subst IsMeasured (sym word) (word_of-measured slice (printable-utf8 slice
            (printable-slice text c.loop-at.at end c.requires.printable))),
        (
          so_far.small,
          (
            (so_far.taken.on, so_far.taken.are),
            (
              so_far.begins,
              (
                drop end text,
                subst (λ w. drop c.if-ends.line.start text
                    ≡ (held ++ tiled (w ∷ [])) ++ drop end text) (sym word)
                    (front-seam text held c.if-ends.line.start c.loop-at.at end (omega (arith, some))
                    so_far.seam),
              ),
            ),
          ),
        ),
      ),
    )

pub loop-at-preserved-in_ok-push : goal.loop-at-preserved-in_ok-push
loop-at-preserved-in_ok-push g c =
    let here = (goal.at.loop-at-preserved-in_ok-push g c).After-next_words-end in
    let settings = frame_settings c.args.frame.now in
    let text = c.args.paragraph.now in
    let test = g.C.PrintableCuts.cuts c.args.cuts.now text in
    let bytes = c.as_bytes-text.ensures.value in
    let end = c.next_words-end.result.0 in
    let slice = slice_range text c.loop-at.at end in
    let found = c.next_words-end.ensures in
    let reach = reaches g here in
    let word : word_view c.from-words.result ≡ word_of slice =
    c.from-words.ensures ∙ ap word_of c.range.ensures.value in
    let more : c.with-line.result ≡ with_word c.if-ends.line (word_of slice) =
    c.with-line.ensures.more ∙ ap (with_word c.if-ends.line) word in
    let items : map word_view c.push.new.self.items ≡ map word_view c.if-ends.held.items ++ word_of slice ∷ [] =
    ap (map word_view) c.in_ok-push.ensures.items ∙ map_push word_view c.if-ends.held.items c.from-words.result
    ∙ ap (λ w. map word_view c.if-ends.held.items ++ w ∷ []) word in
    let step = taken-fit g.S.LineSink.holds settings (g.P.Parts.may c.args.parts.now).Points test text
    c.requires.printable (first_width settings c.args.frame.now.is_later) c.args.frame.now.is_later
    c.args.lines.now c.requires.points
    (g.met.C.PrintableCuts.before_others c.args.cuts.now text c.requires.printable) c.if-ends.line
    (map word_view c.if-ends.held.items) c.if-ends.lines c.loop-at.at end c.room.result reach.some
    reach.within reach.ends (rw bytes at (found.fit c.if-fit.true))
    (c.room.ensures.fits (found.room c.if-fit.true))
    (limit-later settings c.args.frame.now.limit c.room.result c.args.frame.now.limited c.room.ensures.limit)
    (subst (λ l. l.columns < 2 ^ 66) more c.with-line.ensures.small)
    (opened g here) in
    let all : IsTakenTo g.S.LineSink.holds settings (g.P.Parts.may c.args.parts.now).Points test text
    (first_width settings c.args.frame.now.is_later) c.args.frame.now.is_later c.args.lines.now
    c.with-line.result (map word_view c.push.new.self.items) c.if-ends.lines end =
    rw (more, items) step in record {
      within = reach.within;
      small = all.small;
      begins = all.begins;
      seam = all.seam;
      taken = all.taken;
      name = named g here;
    }

pub loop-at-preserved : goal.loop-at-preserved
loop-at-preserved g c =
    let here = (goal.at.loop-at-preserved g c).After-next_words-end in
    let settings = frame_settings c.args.frame.now in
    let text = c.args.paragraph.now in
    let test = g.C.PrintableCuts.cuts c.args.cuts.now text in
    let bytes = c.as_bytes-text.ensures.value in
    let end = c.next_words-end.result.0 in
    let slice = slice_range text c.loop-at.at end in
    let found = c.next_words-end.ensures in
    let reach = reaches g here in
    let so_far = opened g here in
    let held = map word_view c.if-ends.held.items in
    let w = word_view c.from-words.result in
    let word : w ≡ word_of slice = c.from-words.ensures ∙ ap word_of c.range.ensures.value in
    let front : words_from test text c.loop-at.at ≡ w ∷ words_from test text end =
    front-word test text c.loop-at.at end reach.some reach.within reach.ends
    (rw bytes at (found.word c.if-fit.false))
    ∙ ap (λ w. w ∷ words_from test text end) (sym word) in
    let seam = subst (λ w. drop c.if-ends.line.start text ≡ (tiled held ++ tiled (w ∷ [])) ++ drop end text)
    (sym word) (front-seam text (tiled held) c.if-ends.line.start c.loop-at.at end
    (omega (arith, reach.some)) so_far.seam) in
    let (points, are, goes) = c.in_ok-line-2.ensures.lines in record {
      within = reach.within;
      small = c.in_ok-line-2.ensures.small;
      begins = c.in_ok-line-2.ensures.begins;
      seam = c.in_ok-line-2.ensures.seam (drop end text) seam;
      taken = taken-next g.S.LineSink.holds settings (g.P.Parts.may c.args.parts.now).Points
          (words_from test text 0) (first_width settings c.args.frame.now.is_later)
          c.args.frame.now.is_later c.args.lines.now c.if-ends.line c.in_ok-line-2.line held
          (map word_view c.take_word.new.held.items) c.if-ends.lines c.take_word.new.lines w
          (words_from test text end) points are
          (taken-left g.S.LineSink.holds settings (g.P.Parts.may c.args.parts.now).Points
          (words_from test text 0) (first_width settings c.args.frame.now.is_later)
          c.args.frame.now.is_later front so_far.taken) goes;
      name = c.take_word.ensures.name ∙ named g here;
    }

pub returns-clause-taken : goal.returns-clause-taken
returns-clause-taken g c =
    let frame = c.args.frame.now in
    let settings = frame_settings frame in
    let text = c.args.paragraph.now in
    let words = words_from (g.C.PrintableCuts.cuts c.args.cuts.now text) text 0 in
    let first = first_width settings frame.is_later in
    let later = later_width settings in
    let end : length c.as_bytes-text.result.now ≤ c.loop-at.at = omega (arith, c.loop-at-test.false) in
    let past : length text ≤ c.loop-at.at = rw c.as_bytes-text.ensures.value at end in
    let none : words_from (g.C.PrintableCuts.cuts c.args.cuts.now text) text c.loop-at.at ≡ [] =
    rw (drop_all c.loop-at.at text past) refl in
    let (whole, split, pushed) = taken-end g.S.LineSink.holds settings
    (g.P.Parts.may c.args.parts.now).Points words first frame.is_later c.args.lines.now c.loop-at.line
    (map word_view c.loop-at.held.items) c.loop-at.lines c.push_line.new.lines
    (taken-left g.S.LineSink.holds settings (g.P.Parts.may c.args.parts.now).Points words first
    frame.is_later none c.loop-at.invariant.taken)
    (rw c.deref-2.ensures.value at c.in_ok-push_line.ensures.line) in
    let pieces = front_of settings ++ broken_split settings whole in (
      grown sizes_of later first pieces [],
      (
        pieces,
        (words, whole, c.requires.words, split, broken_pieces-front settings whole),
        c.requires.fit (widths_of settings frame.is_later) pieces (grown sizes_of later first pieces [])
            (grown-greedy sizes_of later (widths_of settings frame.is_later)
            (λ n. later_is first later (n + 1) (omega arith)) first refl pieces),
      ),
      pushed,
    )
