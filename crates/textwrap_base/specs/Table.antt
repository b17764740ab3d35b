-- The table of least costs, for any list of line widths, and the division that it gives.
use Rattle.std.specs.Prelude.{◌≡◌, ℕ, zero, suc, ◌+◌, ◌<◌, ◌≤◌, ◌==◌, nat_lt, if◌then◌else◌, List}
use Rattle.std.specs.Prelude.{[], ◌∷◌, ◌++◌, length, map, slice_index, slice_index_or, slice_range}
use Rattle.std.specs.Prelude.{Option, None, Some, MatchOption, Result, OnOk, ⊤, ◌⊎◌}
use Rattle.textwrap_base.specs.Minima.{Costs, counted, table_steps}
use Rattle.textwrap_base.specs.Division.{line_width, IsDivision}
use Rattle.textwrap_base.specs.Cost.{Problem, line_cost, total_width, IsTooWide}
use Rattle.textwrap_base.specs.Errors.{Fits128Bits, Passes128Bits, Overflowed}
use Rattle.textwrap_base.specs.declared.errors.WrapError.{WrapError}
use Rattle.textwrap_base.specs.declared.minima.Minimum.{Minimum}
use Rattle.textwrap_base.specs.declared.minima.table.Entry.{Entry}

-- ---- the table

-- no fragments: no cost, and the next line is the first
abbrev pub first_entry : Entry
first_entry = record { start = 0; cost = 0; line_number = 0 }

-- the cheaper of two, the former where they cost the same
abbrev pub cheaper : Entry → Entry → Entry
cheaper entry other = if nat_lt other.cost entry.cost then other else entry

-- the same of what fits 128 bits: nothing passes every number
abbrev pub cheaper_of : Option Entry → Option Entry → Option Entry
cheaper_of None other = other
cheaper_of (Some entry) None = Some entry
cheaper_of (Some entry) (Some other) = Some (cheaper entry other)

abbrev pub entry_at : List Entry → ℕ → Entry
entry_at entries j = slice_index_or entries j first_entry

-- what is reported of an entry
abbrev pub minimum_of : Entry → Minimum
minimum_of entry = record { start = entry.start; cost = entry.cost }

module _ (cost : ℕ → ℕ → ℕ → ℕ) where
  -- what a last line from fragment i to before j makes of the entry at i
  abbrev pub entry_from : ℕ → Entry → ℕ → Entry
  entry_from i e j =
      record { start = i; cost = e.cost + cost i j e.line_number; line_number = e.line_number + 1 }

  -- the cheapest that the starts up to m give for the end, the earliest where several are
  abbrev pub cheapest : ℕ → List Entry → ℕ → Entry
  cheapest zero entries end = entry_from 0 (entry_at entries 0) end
  cheapest (suc m) entries end =
      cheaper (cheapest m entries end) (entry_from (suc m) (entry_at entries (suc m)) end)

  -- the entry is what its start gives for the end, no start below m gives a cheaper one, and each
  -- start before it gives a dearer one
  pub record IsLeastBelow (entries : List Entry) (end m : ℕ) (e : Entry) : Type 0 where
    pub below : e.start < m
    pub from_start : e ≡ entry_from e.start (entry_at entries e.start) end
    pub least : (i : ℕ) → i < m → e.cost ≤ (entry_from i (entry_at entries i) end).cost
    pub first : (i : ℕ) → i < e.start → e.cost < (entry_from i (entry_at entries i) end).cost

  -- the same within 128 bits: nothing where no start below m gives a cost that fits
  abbrev pub IsBestBelow : List Entry → ℕ → ℕ → Option Entry → Type 0
  IsBestBelow entries end m best = MatchOption best
      ((i : ℕ) → i < m → Passes128Bits (entry_from i (entry_at entries i) end).cost)
      (λ entry. IsLeastBelow entries end m entry × Fits128Bits entry.cost)

  -- the entries of n fragments: the first has no cost, and each later one is the least
  pub record IsTable (n : ℕ) (entries : List Entry) : Type 0 where
    pub len : length entries ≡ n + 1
    pub first : entry_at entries 0 ≡ first_entry
    pub later : (j : ℕ) → 0 < j → j ≤ n → IsLeastBelow entries j j (entry_at entries j)

-- an entry for each end up to n
unfoldable pub table : (ℕ → ℕ → ℕ → ℕ) → ℕ → List Entry
table cost zero = first_entry ∷ []
table cost (suc n) = table cost n ++ cheapest cost n (table cost n) (suc n) ∷ []

-- the cost of entry j, of n, passes 128 bits, and that of no entry before it
pub record IsFirstPast (entries : List Entry) (n j : ℕ) : Type 0 where
  pub within : j ≤ n
  pub past : Passes128Bits (entry_at entries j).cost
  pub before : (k : ℕ) → k < j → Fits128Bits (entry_at entries k).cost

-- the count went from old to new by the steps up to the first entry that passes
abbrev pub StopsAtOverflow : List Entry → ℕ → ℕ → ℕ → Type 0
StopsAtOverflow entries n old new =
    (j : ℕ) × IsFirstPast entries n j × (new ≡ counted old (table_steps j))

-- ---- the table of fragments, the division by it, and its steps

-- each of the lines that follow `at` fragments starts where the list of starts says at its end
abbrev pub FollowStarts : {X : Type 0} → List ℕ → ℕ → List (List X) → Type 0
FollowStarts starts at [] = ⊤
FollowStarts starts at (line ∷ lines) =
    (slice_index starts (at + length line) ≡ at) × FollowStarts starts (at + length line) lines

module _ {X : Type 0} (problem : Problem X) where
  -- the cost of the line from fragment i to before j, by its number
  abbrev pub line_costs : ℕ → ℕ → ℕ → ℕ
  line_costs i j number =
      line_cost problem.priced problem.penalties (line_width problem.widths number)
      (j == length problem.fragments) (slice_range problem.fragments i j)

  abbrev pub fragment_costs : Costs
  fragment_costs = record { ends = length problem.fragments; cost = line_costs }

  abbrev pub fragments_table : List Entry
  fragments_table = table line_costs (length problem.fragments)

  -- the sum of all widths passes 128 bits, or the cost of an entry does
  abbrev pub TableOverflows : Type 0
  TableOverflows =
      IsTooWide problem
      ⊎ ((j : ℕ) × (j ≤ length problem.fragments)
      × Passes128Bits (entry_at fragments_table j).cost)

  -- the division that follows the starts of the table back from its end
  pub record IsByTable (lines : List (List X)) : Type 0 where
    pub division : IsDivision problem.fragments lines
    pub starts : FollowStarts (map (λ entry. entry.start) fragments_table) 0 lines

  -- the count went from old to new by the steps of the whole table, at an error by no more: by
  -- those up to the first entry that passes 128 bits, or by none where the sum of all widths passes
  pub record CountsSteps {A : Type 0} (old new : ℕ) (result : Result A WrapError) : Type 0 where
    pub ok : OnOk result (new ≡ counted old (table_steps (length problem.fragments)))
    pub exact : OnOk result (old ≡ 0 → new ≡ table_steps (length problem.fragments))
    pub most : new ≤ old + table_steps (length problem.fragments)
    pub least : old ≤ new
    pub too_wide : IsTooWide problem → new ≡ old
    pub overflow : Fits128Bits (total_width (λ x. (problem.priced x).sizes) problem.fragments)
        → Overflowed result
        → StopsAtOverflow fragments_table (length problem.fragments) old new
