use Rattle.textwrap_text.proofs.{Common.arith, Common.rules, Units.Characters.shown-from}
use Rattle.textwrap_unicode.proofs.numbers.shown_number_first.Goals as goal

pub loop-character-init : goal.loop-character-init
loop-character-init c = search (rules, arith, shown-from)
