use Rattle.textwrap_text.proofs.ClassNames.{arith}
use Rattle.textwrap_unicode.proofs.cuts.is_word_byte.Goals as goal

pub returns-then-byte-lt128 : goal.returns-then-byte-lt128
returns-then-byte-lt128 c = grind arith
