use Rattle.textwrap_text.proofs.{ClassLemmas.ascii_unit, Common.arith}
use Rattle.textwrap_text.proofs.Common.{length-take-le}
use Rattle.textwrap_unicode.proofs.PrintableBytes.{past-none, past-some}
use Rattle.textwrap_unicode.proofs.pairs.class_past_blanks.Goals as goal

pub returns-then-end-eq0 : goal.returns-then-end-eq0
returns-then-end-eq0 c = grind (arith, past-none)

pub returns : goal.returns
returns c = grind (arith, length-take-le, ascii_unit, c.trimmed_len-end.ensures.value, past-some)
