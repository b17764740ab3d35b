use Rattle.textwrap_display.proofs.tables.cell_line.Goals as goal
use Rattle.textwrap_text.proofs.Common.{arith, get_or-map, rules}

pub returns-in-Some : goal.returns-in-Some
returns-in-Some g c = search (rules, arith, get_or-map, c.in-Some.ensures.lookup, c.line_at.ensures)
