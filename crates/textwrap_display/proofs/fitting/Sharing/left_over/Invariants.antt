use Rattle.textwrap_display.proofs.fitting.Sharing.left_over.Given as goal
use Rattle.textwrap_display.specs.Sharing.{rounded_down}
use Rattle.textwrap_text.proofs.Common.{sum_by, take, ◌-◌, ◌≡◌}

abbrev pub invariant-loop-need : goal.invariant-loop-need
invariant-loop-need l = l.over ≡ l.fn.total - sum_by (rounded_down l.self) (take l.need-index l.needs)
