use Rattle.textwrap_lines.proofs.first_fit.push_after_first.Goals as goal
use Rattle.textwrap_lines.proofs.Common.{as_splitter, frame_settings, on_ok_weaker, subst, words_of}
use Rattle.textwrap_lines.proofs.Common.{[], sym, Pushed, ◌∙◌, ◌∷◌}
use Rattle.textwrap_layout.proofs.Paragraph.Pieces.{words_of-texts}
use Rattle.textwrap_layout.proofs.Text.Sinks.{Pushed-then}
use Rattle.textwrap_lines.proofs.PieceLines.{lines-greedy}

pub returns-clause-pushed : goal.returns-clause-pushed
returns-clause-pushed g c =
    let settings = frame_settings c.args.frame.now in
    let splitter = as_splitter c.args.splitter in
    let text = c.args.paragraph.now in
    let (division, greedy, found) = lines-greedy settings text splitter c.args.frame.now.is_later
    (words_of text) c.utf8.paragraph (words_of-texts text c.utf8.paragraph) in
    let (line, first, begins) = c.in_ok-end.ensures.first in
    on_ok_weaker c.push_printable_lines.result (λ took. (
      division,
      greedy,
      subst (Pushed _ c.args.lines.now c.push_printable_lines.new.lines) (sym begins ∙ found)
          (Pushed-then c.args.lines.now c.push_first_line.new.lines
          c.push_printable_lines.new.lines (line ∷ []) _ first took),
    )) (rw (c.later.ensures.layout, c.later.ensures.later) at c.push_printable_lines.ensures.pushed)
