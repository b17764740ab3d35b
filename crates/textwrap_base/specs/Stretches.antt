-- The stretches of ends that each have one best start.
use Rattle.std.specs.Prelude.{◌≡◌, ℕ, ◌+◌, ◌<◌, ◌≤◌, List, length, slice_index_or}
use Rattle.textwrap_base.specs.Minima.{Costs}
use Rattle.textwrap_base.specs.Search.{cost_from, IsBestStart}
use Rattle.textwrap_base.specs.declared.minima.stretches.Stretch.{Stretch}

abbrev pub no_stretch : Stretch
no_stretch = record { start = 0; from = 0; cost = 0 }

abbrev pub stretch_at : List Stretch → ℕ → Stretch
stretch_at stretches k = slice_index_or stretches k no_stretch

-- each begins after those before it
abbrev pub AreRising : List Stretch → Type 0
AreRising stretches = (i k : ℕ) → i < k → k < length stretches
    → (stretch_at stretches i).from < (stretch_at stretches k).from

-- stretch k has the end: it has begun there, and the next one has not
pub record HasEnd (stretches : List Stretch) (end k : ℕ) : Type 0 where
  pub within : k < length stretches
  pub begun : (stretch_at stretches k).from ≤ end
  pub before_next : k + 1 < length stretches → end < (stretch_at stretches (k + 1)).from

-- of the starts 1 to m, each stretch has the best one for its ends after m and below high
abbrev pub HaveBest : Costs → ℕ → ℕ → List Stretch → Type 0
HaveBest costs m high stretches = (end k : ℕ) → m < end → end < high → HasEnd stretches end k
    → IsBestStart costs m end (stretch_at stretches k).start

-- the stretch of one of the starts up to m: it begins before the last end, and its cost is that of
-- its first end, if that comes after the start
pub record IsPriced (costs : Costs) (m : ℕ) (stretch : Stretch) : Type 0 where
  pub within : stretch.start ≤ m
  pub before_last : stretch.from < costs.ends
  pub cost : stretch.start < stretch.from
      → stretch.cost ≡ cost_from costs stretch.start stretch.from

-- the stretches of the starts 1 to m
pub record AreStretches (costs : Costs) (m : ℕ) (stretches : List Stretch) : Type 0 where
  pub rising : AreRising stretches
  pub priced : (k : ℕ) → k < length stretches → IsPriced costs m (stretch_at stretches k)
  pub best : HaveBest costs m costs.ends stretches
