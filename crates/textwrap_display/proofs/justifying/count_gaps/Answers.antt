use Rattle.textwrap_display.proofs.justifying.count_gaps.Goals as goal
use Rattle.textwrap_display.proofs.WidenedWords.{chunks-few}
use Rattle.textwrap_text.proofs.Common.{arith, rules}

pub overflow_add-words : goal.overflow_add-words
overflow_add-words c = search (rules, arith, chunks-few, c.loop-word.invariant, c.in-Some.ensures.steps)
