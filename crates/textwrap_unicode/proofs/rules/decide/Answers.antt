use Rattle.textwrap_text.proofs.ClassNames.{sym}
use Rattle.textwrap_unicode.proofs.RuleLemmas.{ideographs-part, letters-stay}
use Rattle.textwrap_unicode.proofs.rules.decide.Goals as goal

pub returns-in-Alphabetic-class : goal.returns-in-Alphabetic-class
returns-in-Alphabetic-class c =
    letters-stay c.args.before.now c.args.next c.in-Alphabetic.is c.in-Alphabetic-class.is
    (sym c.if-not-is_zero_width_space.ensures)

pub returns-in-Space-class-2 : goal.returns-in-Space-class-2
returns-in-Space-class-2 c =
    ideographs-part c.args.before.now c.args.next c.in-Ideographic.is c.in-Space-class-2.is
    (sym c.if-is_free-2.ensures)
