use Rattle.textwrap_display.proofs.fitting.fitting_widths.Given as goal
use Rattle.textwrap_display.specs.Fitting.{fitting_widths, rounded_up}
use Rattle.textwrap_display.specs.Sharing.{rounded_down, weight}
use Rattle.textwrap_text.proofs.Common.{drop, length, sum_by, ◌++◌, ◌-◌, ◌≡◌, ◌≤◌}

-- with the widths of the columns that are left, those so far are all; and no more is left over
abbrev pub invariant-loop-need : goal.invariant-loop-need
invariant-loop-need g l = record {
  all : l.widths.items ++ rounded_up (rounded_down l.sharing) (weight l.sharing.basis) l.over
      (drop l.need-index l.needs) ≡ fitting_widths l.fn.total l.needs;
  count : length l.widths.items ≡ l.need-index;
  few : l.over ≤ l.fn.total - sum_by (rounded_down l.sharing) l.needs;
}
