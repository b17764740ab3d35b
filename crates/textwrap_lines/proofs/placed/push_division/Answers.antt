use Rattle.textwrap_lines.proofs.placed.push_division.Goals as goal
use Rattle.textwrap_lines.proofs.Common.{on_ok_weaker}
use Rattle.textwrap_layout.proofs.Text.Sinks.{HasPlaces-pushed}

pub returns : goal.returns
returns g c = on_ok_weaker c.push_lines.result (λ took.
    HasPlaces-pushed c.args.lines.now c.begin_paragraph.new.self c.push_lines.new.lines
    c.args.start _ c.begin_paragraph.ensures.held
    (rw (c.at-frame.ensures.layout, c.at-frame.ensures.later, c.of.ensures) at took))
    c.push_lines.ensures.pushed
