-- The search for the least cost of each end, and the best start of its last line.
use Rattle.std.specs.Prelude.{◌≡◌, ℕ, ◌<◌, ◌≤◌, List, length, slice_index_or}
use Rattle.textwrap_base.specs.Minima.{Costs}
use Rattle.textwrap_base.specs.Table.{table, entry_at, entry_from, minimum_of}
use Rattle.textwrap_base.specs.declared.minima.Minimum.{Minimum}
use Rattle.textwrap_base.specs.declared.minima.table.Entry.{Entry}

-- the entry of the table for an end
abbrev pub least_entry : Costs → ℕ → Entry
least_entry costs end = entry_at (table costs.cost costs.ends) end

-- what the first `end` fragments cost if their last line starts at `start`
abbrev pub cost_from : Costs → ℕ → ℕ → ℕ
cost_from costs start end = (entry_from costs.cost start (least_entry costs start) end).cost

-- what is reported of the first entries of the table
pub record AreMinima (costs : Costs) (minima : List Minimum) : Type 0 where
  pub some : 0 < length minima
  pub each : (k : ℕ) (d : Minimum) → k < length minima
      → slice_index_or minima k d ≡ minimum_of (least_entry costs k)

-- of the starts 1 to m, s is the best for the end, and the earliest where several are
pub record IsBestStart (costs : Costs) (m end s : ℕ) : Type 0 where
  pub positive : 0 < s
  pub within : s ≤ m
  pub least : (i : ℕ) → 0 < i → i ≤ m → cost_from costs s end ≤ cost_from costs i end
  pub first : (i : ℕ) → 0 < i → i < s → cost_from costs s end < cost_from costs i end

-- of the starts 1 to m, m is the best for each end from `from` on, but for the last end
abbrev pub IsBestFrom : Costs → ℕ → ℕ → Type 0
IsBestFrom costs m from = (end : ℕ) → from ≤ end → end < costs.ends → IsBestStart costs m end m
