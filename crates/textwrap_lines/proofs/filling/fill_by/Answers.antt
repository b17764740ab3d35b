use Rattle.textwrap_lines.proofs.Common.{rules, arith}
use Rattle.textwrap_lines.proofs.filling.fill_by.Goals as goal

pub returns-clause-filled : goal.returns-clause-filled
returns-clause-filled g c = search (rules, arith, c.in_ok-fill_to.ensures.lines)
