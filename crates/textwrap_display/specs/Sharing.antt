-- How a total is shared out, in the program's steps.
use Rattle.std.specs.Prelude.{◌≡◌, ℕ, ◌+◌, ◌-◌, ◌*◌, ◌/◌, ◌<◌, ◌^◌, List, length, sum_by}
use Rattle.textwrap_display.specs.Fitting.{widest_line}
use Rattle.textwrap_display.specs.declared.fitting.Basis.{Basis}
use Rattle.textwrap_display.specs.declared.fitting.Basis.TheVariants.{Nothing, Lines, Words, Scarce}
use Rattle.textwrap_display.specs.declared.needs.Need.{Need}
use Rattle.textwrap_display.specs.declared.fitting.Sharing.{Sharing}

abbrev pub sure : Basis → Need → ℕ
sure Nothing need = widest_line need
sure Lines need = widest_line need
sure Words need = need.least
sure Scarce need = 0

abbrev pub weight : Basis → Need → ℕ
weight Nothing need = 1
weight Lines need = widest_line need
weight Words need = widest_line need - need.least
weight Scarce need = need.least

abbrev pub rounded_down : Sharing → Need → ℕ
rounded_down sharing need =
    sure sharing.basis need + sharing.left * weight sharing.basis need / sharing.weights

-- these are the sums of all columns
pub record Shares (sharing : Sharing) (total : ℕ) (needs : List Need) : Type 0 where
  pub left : sum_by (sure sharing.basis) needs + sharing.left ≡ total
  pub weights : sharing.weights ≡ sum_by (weight sharing.basis) needs
  pub some : 0 < length needs → 0 < sharing.weights
  pub fits : total < 2 ^ 64
