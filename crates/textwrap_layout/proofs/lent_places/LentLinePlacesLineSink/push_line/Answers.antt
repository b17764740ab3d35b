use Rattle.textwrap_layout.proofs.lent_places.LentLinePlacesLineSink.push_line.Goals as goal
use Rattle.textwrap_layout.proofs.Common.{assembled_line}
use Rattle.textwrap_layout.proofs.Text.Sinks.{Pushed-lent-places}

pub returns-clause-pushed : goal.returns-clause-pushed
returns-clause-pushed g c = Pushed-lent-places c.args.self.now _ c.args.start
    (assembled_line c.args.indent.now c.args.slice.now c.args.penalty.now) c.add_line.ensures
