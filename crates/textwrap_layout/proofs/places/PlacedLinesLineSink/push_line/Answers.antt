use Rattle.textwrap_layout.proofs.places.PlacedLinesLineSink.push_line.Goals as goal
use Rattle.textwrap_layout.proofs.Common.{assembled_line}
use Rattle.textwrap_layout.proofs.Text.Sinks.{Pushed-placed, on_ok_both}

pub returns-clause-pushed : goal.returns-clause-pushed
returns-clause-pushed g c = on_ok_both c.add_line.result
    (λ places built. Pushed-placed c.args.self.now c.add_line.new.self c.args.start
    (assembled_line c.args.indent.now c.args.slice.now c.args.penalty.now) places built
    c.add_line.ensures.offset) c.add_line.ensures.places c.add_line.ensures.built
