use Rattle.textwrap_marked_lines.proofs.reading.next_line.Goals as goal
use Rattle.textwrap_marked_lines.specs.Lines.{marked_line_view, read_lines, entered}
use Rattle.textwrap_marks.proofs.Common.{◌∙◌, ap}
use Rattle.textwrap_marked_lines.proofs.ReadLemmas.{reads-line, fed-is}
use Rattle.textwrap_marked_lines.specs.Lines.{state_view}
use Rattle.textwrap_marks.specs.Words.{parts_behind_mark}

pub returns-clause-lines : goal.returns-clause-lines
returns-clause-lines c =
    let options = c.args.options.now in
    let state = state_view c.args.state in
    ap (read_lines options state) c.split_at.ensures.parts
    ∙ reads-line options state (state_view c.enter-state.result) (state_view c.in_ok-state.state)
    c.split_at.result.0.now (parts_behind_mark 10 c.split_at.result.1) c.is_some.result
    (marked_line_view c.in_ok-line.line) (c.enter-state.ensures ∙ ap (entered state) c.without_returns.ensures)
    (c.is_some.ensures ∙ fed-is c.split_at.result.1) c.in_ok-line.ensures.line c.in_ok-state.ensures
