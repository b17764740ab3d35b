use Rattle.textwrap_text.proofs.Common.{arith, rules}
use Rattle.textwrap_unicode.proofs.CutLemmas.{breaks_after-from}
use Rattle.textwrap_unicode.proofs.breaks.line_breaks_by.Goals as goal

pub returns : goal.returns
returns c = search (rules, arith, breaks_after-from, c.new.ensures)
