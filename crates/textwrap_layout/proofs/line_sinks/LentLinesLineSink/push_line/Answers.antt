use Rattle.textwrap_layout.proofs.line_sinks.LentLinesLineSink.push_line.Goals as goal
use Rattle.std.proofs.lemmas.Grind.{common_steps}
use Rattle.std.proofs.Common.{arith}
use Rattle.textwrap_layout.proofs.Common.{assembled_line}
use Rattle.textwrap_layout.proofs.Text.Sinks.{assembled-bytes, Pushed-lent}

pub returns-then-is_empty-2-clause-pushed : goal.returns-then-is_empty-2-clause-pushed
returns-then-is_empty-2-clause-pushed g c = Pushed-lent c.args.self.now _ _ c.args.start
    (assembled_line c.args.indent.now c.args.slice.now c.args.penalty.now)
    (assembled-bytes c.args.indent.now c.args.slice.now c.args.penalty.now) (grind (arith, common_steps))

pub returns-clause-pushed : goal.returns-clause-pushed
returns-clause-pushed g c = Pushed-lent c.args.self.now _ _ c.args.start
    (assembled_line c.args.indent.now c.args.slice.now c.args.penalty.now)
    (assembled-bytes c.args.indent.now c.args.slice.now c.args.penalty.now) (grind (arith, common_steps))
