use Rattle.textwrap_lines.proofs.first_fit.push_by_first_fit.Goals as goal
use Rattle.textwrap_lines.proofs.first_fit.push_by_first_fit.Goals.{else-frame-gt0, else-not-is_empty}
use Rattle.textwrap_lines.proofs.first_fit.push_by_first_fit.Goals.{then-frame-gt0, then-not-is_empty}
use Rattle.std.proofs.lemmas.Grind.{common_steps}
use Rattle.textwrap_text.proofs.Common.{false≢true}
use Rattle.textwrap_text.specs.Units.{IsPrintable}
use Rattle.textwrap_lines.proofs.Common.{as_splitter, frame_settings, on_ok_weaker, pieces_of_words}
use Rattle.textwrap_lines.proofs.Common.{indent_of, is_cut_by, parts_by, Pushed, split_words}
use Rattle.textwrap_lines.proofs.Common.{ap, arith, later_width, length, map, subst, sym, true, word_of, ◌∙◌, ◌≡◌, ◌<◌}
use Rattle.textwrap_lines.proofs.PieceLines.{lines-greedy}
use Rattle.textwrap_lines.proofs.PrintableTexts.Pieces.{split-cuts, words-texts}
use Rattle.textwrap_lines.proofs.PrintableTexts.Lines.{lines-by_bytes, lines_of_pieces}

pub returns-in-Some-clause-pushed : goal.returns-in-Some-clause-pushed
returns-in-Some-clause-pushed g c =
    let frame = c.args.frame.now in
    let settings = frame_settings frame in
    let splitter = as_splitter c.args.splitter in
    let text = c.args.paragraph.now in
    let (printable, goes_on) : IsPrintable text × (c.if-frame-gt0.value ≡ true) =
    elim c.if-not-is_empty.branch [
      | then-not-is_empty w ↦ (
        (rw w.as_bytes.ensures.value at w.is_printable-jumps.ensures.0)
            (sym w.jumps-is ∙ c.if-jumps.true),
        w.if-not-is_empty.true,
      )
      | else-not-is_empty w ↦
          absurd (false≢true (sym w.if-not-is_empty.false ∙ sym w.jumps-is ∙ c.if-jumps.true))
    ] in
    let (some, room) : (0 < length text) × (0 < later_width settings) =
    elim c.if-frame-gt0.branch [
      | then-frame-gt0 w ↦ (
        grind (arith, common_steps, w.is_empty.ensures, w.value-is, goes_on),
        rw frame.later at w.if-frame-gt0.true,
      )
      | else-frame-gt0 w ↦ absurd (grind (arith, common_steps, w.if-frame-gt0.false, w.value-is, goes_on))
    ] in
    let cuts = g.P.Words.PrintableCuts.cuts c.in-Some.cuts text in
    let words = map word_of (parts_by cuts 0 text) in
    let pieces = pieces_of_words settings splitter words in
    let indent = indent_of settings frame.is_later in
    let (division, greedy, found) = lines-greedy settings text splitter frame.is_later words
    c.utf8.paragraph (words-texts cuts text printable) in
    let is = lines-by_bytes settings (is_cut_by cuts splitter text) (split_words splitter words)
    indent text (split-cuts cuts splitter text printable
    (g.met.P.Words.PrintableCuts.after_others c.in-Some.cuts text printable))
    printable some (omega arith) room
    ∙ ap (λ width. lines_of_pieces settings text width indent pieces)
    (sym (sym frame.first ∙ c.if-frame.true ∙ frame.later)) ∙ found in
    on_ok_weaker c.push_printable_lines.result (λ took. (
      words,
      division,
      c.in-Some.ensures text printable,
      greedy,
      subst (Pushed _ c.args.lines.now c.push_printable_lines.new.lines) is took,
    )) c.push_printable_lines.ensures.pushed
