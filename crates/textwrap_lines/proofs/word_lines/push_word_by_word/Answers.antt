use Rattle.textwrap_lines.proofs.word_lines.push_word_by_word.Goals as goal
use Rattle.textwrap_lines.proofs.word_lines.push_word_by_word.Goals.{else-has_room+in_ok-line, then-has_room+in_ok-push}
use Rattle.textwrap_lines.proofs.Common.{get_or, List, tiled-append, Word, ℕ, ◌∷◌}
use Rattle.textwrap_lines.proofs.WordLines.{limit-later, taken-whole}
use Rattle.textwrap_text.proofs.Common.{map_push}
use Rattle.textwrap_base.proofs.Division.Grown.{grown, grown-greedy}
use Rattle.textwrap_layout.proofs.Paragraph.Widths.{later_is}
use Rattle.textwrap_layout.specs.Paragraph.{broken_split}
use Rattle.textwrap_lines.proofs.Common.{[], ap, append-nil, append_assoc, arith, AreTexts, drop, drop_all}
use Rattle.textwrap_lines.proofs.Common.{drop_more, first_width, frame_settings, front_of, IsCharBoundary-start}
use Rattle.textwrap_lines.proofs.Common.{HasNoPenalty, IsMeasured, later_width, length, map, refl, sizes_of}
use Rattle.textwrap_lines.proofs.Common.{subst, sym, take_at, tiled, widths_of, word_view, words_cut}
use Rattle.textwrap_lines.proofs.Common.{words_cut-texts, ◌++◌, ◌+◌, ◌∙◌}
use Rattle.textwrap_lines.proofs.WordLines.{at-word, broken_pieces-front, front-tile, standing, taken-end}
use Rattle.textwrap_words.proofs.Common.{AreSplit}
use Rattle.textwrap_lines.proofs.WordLines.{taken-left, taken-next, taken-start}

pub loop-word-init : goal.loop-word-init
loop-word-init g c =
    let settings = frame_settings c.args.frame.now in
    let text = c.args.paragraph.now in
    let words = c.deref-word-items.result.now in
    let (cuts, can, words_are, is) = c.in_ok-words.ensures in
    let texts = subst (AreTexts text) (sym (ap (map word_view) c.deref-word-items.ensures.value ∙ is))
    (words_cut-texts cuts text c.utf8.paragraph can) in
    let start = c.first-line.ensures in
    let front = c.in_ok-held.ensures in record {
      small = rw start.columns (omega arith);
      begins = rw start.start (IsCharBoundary-start text c.utf8.paragraph);
      seam = rw start.start (sym (append-nil (tiled (map word_view c.in_ok-held.held.items)
          ++ tiled (map word_view words)) ∙ ap (λ t. t ++ tiled (map word_view words))
          (ap tiled front ∙ front-tile settings) ∙ texts.tile));
      taken = taken-start g.S.LineSink.holds settings (g.P.Parts.may c.args.parts.now).Points
          (map word_view words) (first_width settings c.args.frame.now.is_later)
          c.args.frame.now.is_later c.args.lines.now c.first-line.result
          (map word_view c.in_ok-held.held.items) start.start (start.width ∙ c.args.frame.now.first)
          start.later start.columns front;
      name = refl;
    }

pub take_word-requires : goal.take_word-requires
take_word-requires g c = λ k.
    let text = c.args.paragraph.now in
    let words = c.deref-word-items.result.now in
    let i = c.loop-word.word-index in
    let (cuts, can, words_are, is) = c.in_ok-words.ensures in
    let texts = subst (AreTexts text) (sym (ap (map word_view) c.deref-word-items.ensures.value ∙ is))
    (words_cut-texts cuts text c.utf8.paragraph can) in
    let taken = c.loop-word.invariant.taken in (
      (refl, tt),
      (
        at-word IsMeasured words i _ c.loop-word-test.true texts.measured,
        (
          c.loop-word.invariant.small,
          (
            (taken.on, taken.are),
            (
              c.loop-word.invariant.begins,
              (
                tiled (map word_view (drop (i + 1) words)) ++ [],
                standing text c.loop-word.line.start
                    (tiled (map word_view c.loop-word.held.items)) words i _ []
                    c.loop-word-test.true c.loop-word.invariant.seam,
              ),
            ),
          ),
        ),
      ),
    )

-- the word at a place
abbrev item : List Word → ℕ → Word
item words i = get_or words i (record {
  word = record { ref_ptr = (0, 0); now = [] };
  whitespace = record { ref_ptr = (0, 0); now = [] };
  penalty = record { ref_ptr = (0, 0); now = [] };
  width = 0;
})

pub loop-word-preserved : goal.loop-word-preserved
loop-word-preserved g c =
    let frame = c.args.frame.now in
    let settings = frame_settings frame in
    let text = c.args.paragraph.now in
    let words = c.deref-word-items.result.now in
    let i = c.loop-word.word-index in
    let w = word_view (item words i) in
    let left = map word_view (drop (i + 1) words) in
    let before = map word_view c.loop-word.held.items in
    let inv = c.loop-word.invariant in
    let seam = standing text c.loop-word.line.start (tiled before) words i _ [] c.loop-word-test.true
    inv.seam in
    let so_far = taken-left g.S.LineSink.holds settings (g.P.Parts.may c.args.parts.now).Points
    (map word_view words) (first_width settings frame.is_later) frame.is_later
    (ap (map word_view) (drop_more words i _ c.loop-word-test.true)) inv.taken in
    elim c.if-has_room.branch [
      | then-has_room+in_ok-push r ↦
          let (cuts, can, words_are, is) = c.in_ok-words.ensures in
          let texts = subst (AreTexts text) (sym (ap (map word_view) c.deref-word-items.ensures.value ∙ is))
          (words_cut-texts cuts text c.utf8.paragraph can) in
          let fits = c.has_room.ensures in
          let room = r.if-has_room.true in
          rw (r.line-is, r.held-is, r.lines-is, r.with-line.ensures.more, r.in_ok-push.ensures.items, map_push) (record {
            small = rw r.with-line.ensures.more at r.with-line.ensures.small;
            begins = inv.begins;
            seam = seam ∙ ap (λ t. t ++ (tiled left ++ [])) (sym (tiled-append before (w ∷ [])))
                ∙ sym (append_assoc (tiled (before ++ w ∷ [])) (tiled left) []);
            taken = taken-whole g.S.LineSink.holds settings (g.P.Parts.may c.args.parts.now).Points
                (map word_view words) (first_width settings frame.is_later) frame.is_later
                c.requires.points c.args.lines.now c.loop-word.line before c.loop-word.lines w left
                (fits.printable room) (at-word IsMeasured words i _ c.loop-word-test.true texts.measured)
                (at-word HasNoPenalty words i _ c.loop-word-test.true texts.plain) (fits.fits room)
                (limit-later settings frame.limit w.width frame.limited (fits.narrow room)) so_far;
            name = inv.name;
          })
      | else-has_room+in_ok-line r ↦
          let held = map word_view r.take_word.new.held.items in
          let (points, are, goes) = r.in_ok-line.ensures.lines in
          rw (r.line-is, r.held-is, r.lines-is) (record {
            small = r.in_ok-line.ensures.small;
            begins = r.in_ok-line.ensures.begins;
            seam = r.in_ok-line.ensures.seam (tiled left ++ []) seam
                ∙ sym (append_assoc (tiled held) (tiled left) []);
            taken = taken-next g.S.LineSink.holds settings (g.P.Parts.may c.args.parts.now).Points
                (map word_view words) (first_width settings frame.is_later) frame.is_later
                c.args.lines.now c.loop-word.line r.in_ok-line.line before held c.loop-word.lines
                r.take_word.new.lines w left points are so_far goes;
            name = r.take_word.ensures.name ∙ inv.name;
          })
    ]

pub push_line-requires : goal.push_line-requires
push_line-requires g c = λ k.
    let held = tiled (map word_view c.loop-word.held.items) in
    let none = drop_all c.loop-word.word-index c.deref-word-items.result.now
    (omega (arith, c.loop-word-test.false)) in
    let seam = rw none at c.loop-word.invariant.seam in (
      (refl, tt),
      (
        c.loop-word.invariant.begins,
        rw (c.deref.ensures.value, seam) (take_at (held ++ []) [] (length held)
            (ap length (append-nil held)) ∙ append-nil held),
      ),
    )

pub returns-clause-taken : goal.returns-clause-taken
returns-clause-taken g c =
    let frame = c.args.frame.now in
    let settings = frame_settings frame in
    let words = c.deref-word-items.result.now in
    let first = first_width settings frame.is_later in
    let later = later_width settings in
    let none = drop_all c.loop-word.word-index words (omega (arith, c.loop-word-test.false)) in
    let (cuts, can, words_are, is) = c.in_ok-words.ensures in
    let (whole, split, pushed) = taken-end g.S.LineSink.holds settings
    (g.P.Parts.may c.args.parts.now).Points (map word_view words) first frame.is_later
    c.args.lines.now c.loop-word.line (map word_view c.loop-word.held.items) c.loop-word.lines
    c.push_line.new.lines (taken-left g.S.LineSink.holds settings
    (g.P.Parts.may c.args.parts.now).Points (map word_view words) first frame.is_later
    (ap (map word_view) none) c.loop-word.invariant.taken)
    (rw c.deref.ensures.value at c.in_ok-push_line.ensures.line) in
    let pieces = front_of settings ++ broken_split settings whole in (
      grown sizes_of later first pieces [],
      (
        pieces,
        (
          words_cut cuts c.args.paragraph.now,
          whole,
          words_are,
          subst (λ ws. AreSplit (g.P.Parts.may c.args.parts.now).Points ws whole)
              (ap (map word_view) c.deref-word-items.ensures.value ∙ is) split,
          broken_pieces-front settings whole,
        ),
        c.requires.fit (widths_of settings frame.is_later) pieces (grown sizes_of later first pieces [])
            (grown-greedy sizes_of later (widths_of settings frame.is_later)
            (λ n. later_is first later (n + 1) (omega arith)) first refl pieces),
      ),
      pushed,
    )
