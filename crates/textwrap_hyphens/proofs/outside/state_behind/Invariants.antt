use Rattle.textwrap_text.proofs.Common.{fold, next_of, ◌≡◌}
use Rattle.textwrap_hyphens.proofs.outside.state_behind.Given as goal

-- the characters so far lead to the state
abbrev pub invariant-loop-ch : goal.invariant-loop-ch
invariant-loop-ch l = l.state ≡ fold next_of l.fn.state l.yielded
