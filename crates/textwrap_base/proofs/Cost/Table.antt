-- The entries of the table, which are the least ones, where it overflows, and the starts of lines
-- that it gives.
use Rattle.textwrap_text.proofs.Common.{get_or-map, get_or_append_left, get_or_push, length_push, ℕ}
use Rattle.textwrap_text.proofs.Common.{add-one, All-take, cases_eq, IsErrAnd, length-map, SomeIff}
use Rattle.textwrap_text.proofs.Common.{arith, get_or, le-ltb, length, List, lt-ltb, Option, Result}
use Rattle.textwrap_text.proofs.Common.{All, Err, None, refl, rules, Some, subst, take, zero, ◌++◌}
use Rattle.textwrap_text.proofs.Common.{eqb, inl, inr, map, min, suc, sym, ◌+◌, ◌-◌, ◌<◌, ◌^◌, ◌∙◌}
use Rattle.textwrap_text.proofs.Common.{[], ap, Ok, ⊤, ◌∷◌, ◌≡◌, ◌≤◌}
use Rattle.textwrap_text.proofs.Numbers.{past_from_not}
use Rattle.std.proofs.{lemmas.Simd.map-map, Math.Nat.mul-le-mul}
use Rattle.textwrap_base.proofs.Common.{first_entry, fragments_table, IsLeastBelow, table_steps}
use Rattle.textwrap_base.proofs.Common.{AreNoLater, entry_from, line_costs, Overflowed, total_width}
use Rattle.textwrap_base.proofs.Common.{AreAtMost, Entry, entry_at, line_width, Minimum, minimum_of}
use Rattle.textwrap_base.proofs.Common.{counted, Problem}
use Rattle.textwrap_base.proofs.Cost.LineCosts.{closed_width-le, line_cost-le, total_width-take}
use Rattle.textwrap_base.specs.Table.{cheaper, cheaper_of, cheapest, IsBestBelow, IsTable, table}
use Rattle.textwrap_base.specs.declared.errors.WrapError.{TheVariants.Overflow, WrapError}
use Rattle.textwrap_base.specs.declared.errors.WrapError.TheVariants.{Memory}

-- ---- how many steps a table takes

table_steps_more : (n : ℕ) → table_steps (n + 1) ≡ table_steps n + (n + 1)
table_steps_more n = omega arith

-- the count goes on
pub counted_within : (count before after n all : ℕ) → before ≡ counted count (table_steps n)
    → after ≡ counted before (n + 1) → n < all → after ≤ counted count (table_steps all)
counted_within count before after n all h k l = grind (arith, mul-le-mul, table_steps_more)

pub counted_next : (count before after n : ℕ) → before ≡ counted count (table_steps n)
    → after ≡ counted before (n + 1) → after ≡ counted count (table_steps (n + 1))
counted_next count before after n h k = let more = table_steps_more n in omega arith

-- ---- the entries of the table, one start after another: the new entry is the least

pub length-table : (cost : ℕ → ℕ → ℕ → ℕ) (n : ℕ) → length (table cost n) ≡ n + 1
unfolding table
length-table cost zero = refl
length-table cost (suc n) = grind (arith, length-table cost n, length_push)

-- an entry stays where the table goes on
pub entry-table_more : (cost : ℕ → ℕ → ℕ → ℕ) (n j : ℕ) → j ≤ n
    → entry_at (table cost (suc n)) j ≡ entry_at (table cost n) j
unfolding table
entry-table_more cost n j h = grind (arith, length-table, get_or_append_left)

-- its last entry is the cheapest
pub entry-table_last : (cost : ℕ → ℕ → ℕ → ℕ) (n : ℕ)
    → entry_at (table cost (suc n)) (suc n) ≡ cheapest cost n (table cost n) (suc n)
unfolding table
entry-table_last cost n = grind (arith, length-table, get_or_push)

pub entry-table_first : (cost : ℕ → ℕ → ℕ → ℕ) (n : ℕ) → entry_at (table cost n) 0 ≡ first_entry
unfolding table
entry-table_first cost zero = refl
entry-table_first cost (suc n) = entry-table_more cost n 0 (omega arith) ∙ entry-table_first cost n

-- ---- one start more

module _ (cost : ℕ → ℕ → ℕ → ℕ) (entries : List Entry) (end : ℕ) where
  pub least_cheaper : (m : ℕ) (e : Entry) → IsLeastBelow cost entries end m e
      → IsLeastBelow cost entries end (m + 1)
      (cheaper e (entry_from cost m (entry_at entries m) end))
  least_cheaper m e h = grind (arith, lt-ltb, le-ltb)

  -- what the code finds, which passes over what does not fit 128 bits
  pub best_more : (m : ℕ) (best other : Option Entry) → IsBestBelow cost entries end m best
      → SomeIff other ((entry_from cost m (entry_at entries m) end).cost < 2 ^ 128)
      (entry_from cost m (entry_at entries m) end)
      → IsBestBelow cost entries end (m + 1) (cheaper_of best other)
  best_more m None None h misses = λ i l. let past = past_from_not _ misses in grind (arith, h i)
  best_more m None (Some c) h (fits, is) = rw is (grind arith, fits)
  best_more m (Some e) None (h, fits) misses = (grind arith, fits)
  best_more m (Some e) (Some c) (h, fits) (fits_new, is) = grind (arith, least_cheaper)

-- ---- each entry of the table is the least

-- the starts up to m
pub cheapest-least : (m : ℕ) (cost : ℕ → ℕ → ℕ → ℕ) (entries : List Entry) (end : ℕ)
    → IsLeastBelow cost entries end (suc m) (cheapest cost m entries end)
cheapest-least zero cost entries end = grind arith
cheapest-least (suc m) cost entries end =
    grind (arith, cheapest-least m cost entries end, least_cheaper)

-- only one entry is the least
pub least_one : (cost : ℕ → ℕ → ℕ → ℕ) (entries : List Entry) (end m : ℕ) (e f : Entry)
    → IsLeastBelow cost entries end m e → IsLeastBelow cost entries end m f → e ≡ f
least_one cost entries end m e f h k = grind arith

-- an entry of the table is that of each longer table
pub entry-table_longer : (cost : ℕ → ℕ → ℕ → ℕ) (n j k : ℕ) → k ≤ j → j ≤ n
    → entry_at (table cost n) k ≡ entry_at (table cost j) k
entry-table_longer cost zero j k h l = let e : j ≡ zero = omega arith in rw e refl
entry-table_longer cost (suc n) j k h l = elim (cases_eq j (suc n)) [
  | inl e ↦ rw e refl
  | inr ne ↦ entry-table_more cost n k (omega arith) ∙ entry-table_longer cost n j k h (omega arith)
]

least_entries : (cost : ℕ → ℕ → ℕ → ℕ) (entries others : List Entry) (end m : ℕ) (e : Entry)
    → ((i : ℕ) → i < m → entry_at entries i ≡ entry_at others i)
    → IsLeastBelow cost entries end m e → IsLeastBelow cost others end m e
least_entries cost entries others end m e same h = grind arith

pub table-is_table : (cost : ℕ → ℕ → ℕ → ℕ) (n : ℕ) → IsTable cost n (table cost n)
table-is_table cost n =
    record { len = length-table cost n; first = entry-table_first cost n; later = later }
  where
    later : (j : ℕ) → 0 < j → j ≤ n
        → IsLeastBelow cost (table cost n) j j (entry_at (table cost n) j)
    later zero p l = absurd (omega arith)
    later (suc j) p l = subst (IsLeastBelow cost (table cost n) (suc j) (suc j))
        (sym (entry-table_longer cost n (suc j) (suc j) (omega arith) l ∙ entry-table_last cost j))
        (least_entries cost (table cost j) (table cost n) (suc j) (suc j) _
        (λ i k. sym (entry-table_longer cost n j i (omega arith) (omega arith)))
        (cheapest-least j cost (table cost j) (suc j)))

-- the line after j fragments has a number of at most j
pub number-table : (cost : ℕ → ℕ → ℕ → ℕ) (n j : ℕ) → j ≤ n
    → (entry_at (table cost n) j).line_number ≤ j
number-table cost zero j l =
    let none : j ≡ 0 = omega arith in rw (none, entry-table_first cost 0) (omega arith)
number-table cost (suc n) j l = elim (cases_eq j (suc n)) [
  | inl e ↦
      let h = cheapest-least n cost (table cost n) (suc n) in
      let number = number-table cost n (cheapest cost n (table cost n) (suc n)).start
      (omega (arith, h.below)) in
      rw (e, entry-table_last cost n)
      (omega (arith, ap (λ (x : Entry). x.line_number) h.from_start, number, h.below))
  | inr ne ↦ rw (entry-table_more cost n j (omega arith)) (number-table cost n j (omega arith))
]

-- the best entry ends the next table
pub table_next : (cost : ℕ → ℕ → ℕ → ℕ) (n : ℕ) (e : Entry)
    → IsLeastBelow cost (table cost n) (n + 1) (n + 1) e
    → table cost n ++ e ∷ [] ≡ table cost (n + 1)
unfolding table
table_next cost n e h = grind (arith, add-one, least_one, cheapest-least)

-- where no start gives a cost that fits, the next entry does not fit
pub table_past : (cost : ℕ → ℕ → ℕ → ℕ) (n m : ℕ) → n < m
    → ((i : ℕ) → i < n + 1 → 2 ^ 128 ≤ (entry_from cost i (entry_at (table cost n) i) (n + 1)).cost)
    → 2 ^ 128 ≤ (entry_at (table cost m) (n + 1)).cost
table_past cost n m l past =
    let h = cheapest-least n cost (table cost n) (suc n) in
    search (rules, arith, add-one, entry-table_longer, entry-table_last)

pub table_fits : (cost : ℕ → ℕ → ℕ → ℕ) (n : ℕ) (e : Entry)
    → table cost n ++ e ∷ [] ≡ table cost (n + 1) → e.cost < 2 ^ 128
    → ((j : ℕ) → j ≤ n → (entry_at (table cost n) j).cost < 2 ^ 128)
    → (j : ℕ) → j ≤ n + 1 → (entry_at (table cost (n + 1)) j).cost < 2 ^ 128
table_fits cost n e is fits all j l = elim (cases_eq j (n + 1)) [
  | inl q ↦ rw (q, ← is, get_or_push (table cost n) e first_entry (n + 1) (length-table cost n)) fits
  | inr ne ↦ rw (add-one, entry-table_more cost n j (omega arith)) (all j (omega arith))
]

-- ---- where the table of fragments overflows, and where it does not

-- one line is a division of each prefix
pub one_line : (cost : ℕ → ℕ → ℕ → ℕ) (n j : ℕ) → j < n
    → (entry_at (table cost n) (suc j)).cost ≤ cost 0 (suc j) 0
one_line cost n j l =
    let h = ((table-is_table cost n).later (suc j) (omega arith) l).least 0 (omega arith) in
    grind (arith, entry-table_first)

-- where all widths together keep to 64 bits, each entry keeps to 128
pub table-fits : {X : Type 0} (problem : Problem X) → AreAtMost (2 ^ 64 - 1) problem.penalties
    → All (λ x. (problem.priced x).break_penalty ≤ 2 ^ 64 - 1) problem.fragments
    → ((i : ℕ) → get_or problem.widths i 0 < 2 ^ 64)
    → total_width (λ x. (problem.priced x).sizes) problem.fragments < 2 ^ 64
    → (j : ℕ) → j ≤ length problem.fragments
    → (entry_at (fragments_table problem) j).cost < 2 ^ 128
table-fits problem h breaks k l zero b = grind (arith, entry-table_first)
table-fits problem h breaks k l (suc j) b =
    let line = take (suc j - 0) problem.fragments in
    let part = total_width-take (λ x. (problem.priced x).sizes) problem.fragments (suc j - 0) in
    let closed = closed_width-le (λ x. (problem.priced x).sizes) line in
    let width = k (min 0 (length problem.widths - 1)) in
    let fits = line_cost-le (2 ^ 64 - 1) problem.priced problem.penalties
    (line_width problem.widths 0) (eqb (suc j) (length problem.fragments)) line h
    (All-take (λ x. (problem.priced x).break_penalty ≤ 2 ^ 64 - 1) (suc j - 0)
    problem.fragments breaks) (omega (arith, width)) (omega (arith, part, closed)) in
    omega (arith, one_line (line_costs problem) (length problem.fragments) j b, fits)

-- an error that is passed on
pub overflowed_on : {A : Type 0} (B : Type 0) (r : Result A WrapError) (e : WrapError)
    → IsErrAnd r (λ f. f ≡ e) → Overflowed r → Overflowed {A = B} (Err e)
overflowed_on B (Ok v) e h o = absurd o
overflowed_on B (Err (Memory m)) e h o = absurd o
overflowed_on B (Err (Overflow m)) e h o = rw (← h) tt

-- ---- divisions by the starts of their lines, the last line first: the table follows the chosen
-- one back

-- the starts of a division of j fragments, the last line first
abbrev pub AreStarts : List ℕ → ℕ → Type 0
AreStarts [] j = j ≡ 0
AreStarts (i ∷ rest) j = (i < j) × AreStarts rest i

-- its cost
abbrev pub starts_cost : List ℕ → (ℕ → ℕ → ℕ → ℕ) → ℕ → ℕ
starts_cost [] cost j = 0
starts_cost (i ∷ rest) cost j = starts_cost rest cost i + cost i j (length rest)

-- each start is the one that the list has at its end
abbrev pub FollowBack : List ℕ → List ℕ → ℕ → Type 0
FollowBack [] starts j = ⊤
FollowBack (i ∷ rest) starts j = (get_or starts j 0 ≡ i) × FollowBack rest starts i

-- after the first line, the number of a line does not change its cost
abbrev pub IsSteady : (ℕ → ℕ → ℕ → ℕ) → Type 0
IsSteady cost = (i j l m : ℕ) → 1 ≤ l → 1 ≤ m → cost i j l ≡ cost i j m

abbrev pub table_starts : (ℕ → ℕ → ℕ → ℕ) → ℕ → List ℕ
table_starts cost n = map (λ (x : Entry). x.start) (table cost n)

pub start-at : (cost : ℕ → ℕ → ℕ → ℕ) (n j : ℕ) → j ≤ n
    → get_or (table_starts cost n) j 0 ≡ (entry_at (table cost n) j).start
start-at cost n j l = search (rules, arith, get_or-map, length-table)

-- ---- what it follows

module _ (cost : ℕ → ℕ → ℕ → ℕ) (n : ℕ) (steady : IsSteady cost) where
  abbrev entries : List Entry
  entries = table cost n

  is : IsTable cost n entries
  is = table-is_table cost n

  -- a line costs the same after each division of the fragments before it
  cost_after : (rest : List ℕ) (i j : ℕ) → i ≤ n → AreStarts rest i
      → cost i j (length rest) ≡ cost i j (entry_at entries i).line_number
  cost_after [] i j l h = rw (h, is.first) refl
  cost_after (k ∷ rest) i j l (h, hs) = grind (arith, is)

  pub table_least : (starts : List ℕ) (j : ℕ) → j ≤ n → AreStarts starts j
      → (entry_at entries j).cost ≤ starts_cost starts cost j
  table_least [] j l h = rw (h, is.first) (omega arith)
  table_least (i ∷ rest) j l (h, hs) =
      grind (arith, is, cost_after, table_least rest i (omega arith) hs)

  pub table_followed : (starts : List ℕ) (j : ℕ) → j ≤ n → AreStarts starts j
      → FollowBack starts (table_starts cost n) j
      → starts_cost starts cost j ≡ (entry_at entries j).cost
  table_followed [] j l h f = rw (h, is.first) refl
  table_followed (i ∷ rest) j l (h, hs) (f, fs) =
      grind (arith, is, start-at, cost_after, table_followed rest i (omega arith) hs fs)

  pub table_earliest : (starts others : List ℕ) (j : ℕ) → j ≤ n → AreStarts starts j
      → FollowBack starts (table_starts cost n) j → AreStarts others j
      → starts_cost others cost j ≡ (entry_at entries j).cost → AreNoLater starts others
  table_earliest [] others j l h f o e = tt
  table_earliest (s ∷ rest) [] j l (h, hs) f o e = absurd (omega arith)
  table_earliest (s ∷ rest) (i ∷ others) j l (h, hs) (f, fs) (o, os) e =
      let later = is.later j (omega arith) l in
      let start = sym (start-at cost n j l) ∙ f in
      let after = cost_after others i j (omega arith) os in
      let before = table_least others i (omega arith) os in
      let no_less : i < s → ⊥ = λ k. let dearer = later.first i (omega (arith, start, k)) in
      omega (arith, dearer, after, before, e) in
      let same : starts_cost others cost i ≡ (entry_at entries i).cost =
      omega (arith, later.least i o, after, before, e) in
      elim (cases_eq s i) [
        | inl q ↦ inr (
          q,
          table_earliest rest others s (omega arith) hs fs
              (subst (λ k. AreStarts others k) (sym q) os) (rw q same),
        )
        | inr ne ↦ inl (omega arith)
      ]

  -- the starts that the table gives for each end
  pub starts_to : (bound j : ℕ) → j ≤ bound → j ≤ n
      → (starts : List ℕ) × AreStarts starts j × FollowBack starts (table_starts cost n) j
  starts_to bound zero b l = ([], refl, tt)
  starts_to zero (suc j) b l = absurd (omega arith)
  starts_to (suc bound) (suc j) b l =
      let below = (is.later (suc j) (omega arith) l).below in
      let (rest, h, f) = starts_to bound (entry_at entries (suc j)).start (omega arith)
      (omega arith) in
      ((entry_at entries (suc j)).start ∷ rest, (below, h), (start-at cost n (suc j) l, f))

-- ---- the starts and the costs that are reported

module _ (cost : ℕ → ℕ → ℕ → ℕ) (n : ℕ) (minima : List Minimum)
    (reported : minima ≡ map minimum_of (table cost n)) where
  pub starts_reported : map (λ (m : Minimum). m.start) minima ≡ map (λ (x : Entry). x.start)
      (table cost n)
  starts_reported = search (rules, arith, map-map)

  pub length_reported : length minima ≡ n + 1
  length_reported = ap length reported ∙ length-map (table cost n) minimum_of ∙ length-table cost n

  pub first_reported : get_or (map (λ (m : Minimum). m.start) minima) 0 0 ≡ 0
  first_reported = cc (starts_reported, start-at cost n 0 (omega arith), entry-table_first cost n)

  pub later_reported : (j : ℕ) → 0 < j → j ≤ n
      → get_or (map (λ (m : Minimum). m.start) minima) j 0 < j
  later_reported j p l =
      let e = ap (λ l. get_or l j 0) starts_reported ∙ start-at cost n j l in
      omega (arith, e, ((table-is_table cost n).later j p l).below)
