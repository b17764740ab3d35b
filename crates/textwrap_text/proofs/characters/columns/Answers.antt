use Rattle.textwrap_text.proofs.Common.{rules, arith}
use Rattle.textwrap_text.proofs.characters.columns.Goals as goal
use Rattle.textwrap_text.proofs.Units.Texts.{ideograph-columns, syllable-columns}

pub returns-then-code-le12438 : goal.returns-then-code-le12438
returns-then-code-le12438 c = search (rules, arith, syllable-columns)

pub returns-then-code-le40959 : goal.returns-then-code-le40959
returns-then-code-le40959 c = search (rules, arith, ideograph-columns)
