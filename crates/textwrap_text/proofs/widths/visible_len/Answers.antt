use Rattle.textwrap_text.proofs.widths.visible_len.Goals as goal
use Rattle.textwrap_text.proofs.Common.{arith, length-append}
use Rattle.textwrap_text.proofs.Units.{Characters.shown-all, Reading.stripped-short}

pub loop-character-init : goal.loop-character-init
loop-character-init c = grind (arith, shown-all)

pub overflow_add-len : goal.overflow_add-len
overflow_add-len c = grind (arith, length-append, stripped-short)
