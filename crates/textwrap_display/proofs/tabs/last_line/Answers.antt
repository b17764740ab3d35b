use Rattle.textwrap_display.proofs.tabs.last_line.Goals as goal
use Rattle.textwrap_display.proofs.TabTexts.{last_line-behind, last_line-none}
use Rattle.textwrap_text.proofs.Common.{arith, rules}

pub returns-in-Some : goal.returns-in-Some
returns-in-Some c = search (rules, arith, last_line-behind, c.in-Some.ensures.cases)

pub returns-in-None : goal.returns-in-None
returns-in-None c = last_line-none c.args.text.now c.in-None.ensures.cases
