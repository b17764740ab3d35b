use Rattle.textwrap_lines.proofs.Common.{rules, arith}
use Rattle.textwrap_lines.proofs.steps.points.points_within.Goals as goal
use Rattle.textwrap_lines.proofs.InSteps.{between-after}

pub overflow_sub-point : goal.overflow_sub-point
overflow_sub-point g c =
    search (rules, arith, between-after, c.points_between-inside.ensures, c.loop-point-test.true)
