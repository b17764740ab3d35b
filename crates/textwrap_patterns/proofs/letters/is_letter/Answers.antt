use Rattle.textwrap_patterns.proofs.Ascii.{latin-alphabetic, lowercase-alphabetic}
use Rattle.textwrap_text.proofs.Common.{arith, refl}
use Rattle.textwrap_patterns.proofs.letters.is_letter.Goals as goal

pub returns-then-is_ascii_lowercase : goal.returns-then-is_ascii_lowercase
returns-then-is_ascii_lowercase c =
    let cases = c.if-is_ascii_lowercase.ensures.cases in
    rw (lowercase-alphabetic c.args.ch (omega (arith, cases)) (omega (arith, cases))) refl

pub returns-then-ch-ne247 : goal.returns-then-ch-ne247
returns-then-ch-ne247 c =
    rw (latin-alphabetic c.args.ch c.if-ch-ge223.true c.if-ch-le591.true c.if-ch-ne247.true) refl
