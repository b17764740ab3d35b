-- The search by a queue: its steps, the costs that suit it, and the stretches of ends that each
-- start takes.
use Rattle.textwrap_text.proofs.Common.{get_or-drop, get_or-take, get_or_append_left, get_or_push}
use Rattle.textwrap_text.proofs.Common.{cases_lt, get_or-map, length-drop, length-take, length_push}
use Rattle.textwrap_text.proofs.Common.{arith, drop, get_or, length, length-map, List, rules, subst}
use Rattle.textwrap_text.proofs.Common.{inl, inr, map, max, min, refl, suc, sym, take, zero, ◌++◌}
use Rattle.textwrap_text.proofs.Common.{[], ap, ℕ, ◌*◌, ◌+◌, ◌-◌, ◌/◌, ◌<◌, ◌^◌, ◌∙◌, ◌∷◌, ◌≡◌, ◌≤◌}
use Rattle.std.proofs.{lemmas.List.ext_get_or, lemmas.List.get_or_read, Math.Nat.mul-le-mul_right}
use Rattle.textwrap_base.{proofs.Cost.Table.least_one, specs.Queue.digits_within}
use Rattle.textwrap_base.proofs.Common.{AreStretches, binary_digits, IsBestStart, IsLeastBelow}
use Rattle.textwrap_base.proofs.Common.{AreMinima, entry_from, first_entry, IsBestFrom, least_entry}
use Rattle.textwrap_base.proofs.Common.{cost_from, HaveBest, minimum_of, stretch_at, SuitQueue}
use Rattle.textwrap_base.proofs.Common.{Costs, Entry, HasEnd, IsPriced, Minimum, Stretch, table}
use Rattle.textwrap_base.proofs.Cost.Table.{entry-table_first, length-table, table-is_table}
use Rattle.textwrap_base.specs.Stretches.{AreRising, no_stretch}

-- ---- how many binary digits a number has

digits_upto : (a b m n : ℕ) → m ≤ n → n ≤ b → digits_within a m ≤ digits_within b n
digits_upto zero b m n l within = omega arith
digits_upto (suc a) b zero n l within = omega arith
digits_upto (suc a) zero (suc m) n l within = absurd (omega arith)
digits_upto (suc a) (suc b) (suc m) zero l within = absurd (omega arith)
digits_upto (suc a) (suc b) (suc m) (suc n) l within =
    omega (arith, digits_upto a b (suc m / 2) (suc n / 2) (omega arith) (omega arith))

pub digits_mono : (m n : ℕ) → m ≤ n → binary_digits m ≤ binary_digits n
digits_mono m n l = digits_upto m n m n l (omega arith)

-- the half of a number has a digit less
pub digits_half : (m n : ℕ) → m ≤ n / 2 → 0 < n → binary_digits m + 1 ≤ binary_digits n
digits_half m zero l some = absurd (omega arith)
digits_half m (suc n) l some = omega (arith, digits_upto m n m (suc n / 2) l (omega arith))

-- ---- how many steps a search takes

module _ (n m old before after had has : ℕ) (l : m < n)
    (bound : before + had + 2 * (m - (n + 1) / 2) + (10 + 2 * binary_digits n)
    ≤ old + m * (10 + 2 * binary_digits n))
    (step : after + has ≤ before + had + 10 + 2 * binary_digits (n - (m + 1))) where
  -- in the second half, the number of ends to come has a digit less than that of all
  fewer : 2 * binary_digits (n - (m + 1)) + 2 * (m + 1 - (n + 1) / 2)
      ≤ 2 * binary_digits n + 2 * (m - (n + 1) / 2)
  fewer = grind (arith, cases_lt, digits_half, digits_mono)

  -- one end more, where each stretch has paid for its own drop
  pub steps_more : (more : ℕ) → more ≡ m + 1
      → after + has + 2 * (more - (n + 1) / 2) + (10 + 2 * binary_digits n)
      ≤ old + more * (10 + 2 * binary_digits n)
  steps_more more is = rw is (omega (arith, fewer))

  pub steps_within : after ≤ old + n * (10 + 2 * binary_digits n)
  steps_within = grind (arith, mul-le-mul_right, fewer)

-- ---- entries of the table

pub least_entry-first : (costs : Costs) → least_entry costs 0 ≡ first_entry
least_entry-first costs = entry-table_first costs.cost costs.ends

-- a line that starts after some fragments is not the first
later_number : (costs : Costs) (start : ℕ) → 0 < start → start ≤ costs.ends
    → 0 < (least_entry costs start).line_number
later_number costs start some l =
    let later = (table-is_table costs.cost costs.ends).later start some l in search (rules, arith)

cost_from-first : (costs : Costs) (end : ℕ) → cost_from costs 0 end ≡ costs.cost 0 end 0
cost_from-first costs end = rw (least_entry-first costs) (omega arith)

module _ (costs : Costs) (suits : SuitQueue costs) where
  pub cost_from-later : (start end : ℕ) → 0 < start → start < end → end ≤ costs.ends
      → cost_from costs start end ≡ (least_entry costs start).cost + costs.cost start end 1
  cost_from-later start end some ordered l = grind (arith, later_number)

  -- one line is a division of each prefix
  pub small_entry : (end : ℕ) → end ≤ costs.ends → (least_entry costs end).cost ≤ 2 ^ 125
  small_entry zero l = rw (least_entry-first costs) (omega arith)
  small_entry (suc end) l =
      let later = (table-is_table costs.cost costs.ends).later (suc end) (omega arith) l in
      omega (
        arith,
        later.least 0 (omega arith),
        cost_from-first costs (suc end),
        suits.small 0 (suc end) 0 (omega arith) l,
      )

  -- what the code asks for: the number 0 at start 0, and else 1
  pub cost_from-asked : (minima : List Minimum) (start end : ℕ) (d : Minimum)
      → AreMinima costs minima → start < length minima → start < end → end ≤ costs.ends
      → (get_or minima start d).cost + costs.cost start end (min start 1) ≡ cost_from costs start end
  cost_from-asked minima start end d are known ordered l =
      grind (arith, cases_lt, cost_from-later, least_entry-first)

  -- a later start that gives a smaller cost at one end gives one at each later end
  pub cheaper_later : (a b c d : ℕ) → 0 < a → a < b → b < c → c < d → d < costs.ends
      → cost_from costs b c < cost_from costs a c → cost_from costs b d < cost_from costs a d
  cheaper_later a b c d some ab bc cd dn cheaper = omega (
    arith,
    suits.convex a b c d some ab bc cd dn,
    cost_from-later a c some (omega arith) (omega arith),
    cost_from-later b c (omega arith) bc (omega arith),
    cost_from-later a d some (omega arith) (omega arith),
    cost_from-later b d (omega arith) (omega arith) (omega arith),
  )

-- ---- the list that is reported

pub AreMinima-one : (costs : Costs) (minima : List Minimum)
    → minima ≡ record { start = 0; cost = 0 } ∷ [] → AreMinima costs minima
AreMinima-one costs minima is = rw is (grind (arith, least_entry-first))

pub AreMinima-push : (costs : Costs) (minima more : List Minimum) (m : Minimum)
    → AreMinima costs minima → m ≡ minimum_of (least_entry costs (length minima))
    → more ≡ minima ++ m ∷ [] → AreMinima costs more
AreMinima-push costs minima more m are is pushed =
    rw pushed (grind (arith, length_push, get_or_append_left, get_or_push))

-- all of them are the table's
pub AreMinima-all : (costs : Costs) (minima : List Minimum) → AreMinima costs minima
    → length minima ≡ costs.ends + 1 → minima ≡ map minimum_of (table costs.cost costs.ends)
AreMinima-all costs minima are len =
    let entries = table costs.cost costs.ends in
    let many = length-table costs.cost costs.ends in
    let d : Minimum = record { start = 0; cost = 0 } in
    ext_get_or d minima (map minimum_of entries) (omega (arith, many, length-map entries minimum_of))
    (λ k l. are.each k d l
    ∙ sym (get_or-map minimum_of entries k first_entry d (omega (arith, many))))

-- ---- the best start of an end from 1 on, as one more start comes into question

module _ (costs : Costs) (m start : ℕ) (next : start ≡ m + 1) where
  best_new : (end s : ℕ) → IsBestStart costs m end s
      → cost_from costs start end < cost_from costs s end → IsBestStart costs start end start
  best_new end s best cheaper = grind arith

  module _ (suits : SuitQueue costs) where
    -- the new start beats a at the end c, so it does at each later end, where a is the best
    pub best_after : (a c end : ℕ) → IsBestStart costs m end a → start < c → c ≤ end
        → end < costs.ends → cost_from costs start c < cost_from costs a c
        → IsBestStart costs start end start
    best_after a c end best after later l cheaper = best_new end a best
        (grind (arith, cheaper_later costs suits a start c end, best.positive, best.within))

    -- the new start does not beat a at the end c, so it does not beat the best of an earlier end
    pub best_before : (s a end c : ℕ) → IsBestStart costs m end s → 0 < a → a ≤ m → start < end
        → end ≤ c → c < costs.ends → cost_from costs a c ≤ cost_from costs start c
        → IsBestStart costs start end s
    best_before s a end c best some within after earlier l dearer =
        elim (cases_lt (cost_from costs start end) (cost_from costs s end)) [
          | inl cheap ↦ absurd
              (grind (arith, cheaper_later costs suits a start end c, best.least a some within))
          | inr dear ↦ grind arith
        ]

-- ---- the best start from 1 on, and start 0

module _ (costs : Costs) (m end s : ℕ) (last : end ≡ m + 1) (l : end ≤ costs.ends)
    (best : IsBestStart costs m end s) where
  least_is : (e : Entry) → IsLeastBelow costs.cost (table costs.cost costs.ends) end end e
      → minimum_of (least_entry costs end) ≡ minimum_of e
  least_is e is = ap minimum_of (least_one costs.cost (table costs.cost costs.ends) end end _ e
      ((table-is_table costs.cost costs.ends).later end (omega arith) l) is)

  pub least-later : cost_from costs s end < cost_from costs 0 end
      → minimum_of (least_entry costs end) ≡ record { start = s; cost = cost_from costs s end }
  least-later cheaper = least_is (entry_from costs.cost s (least_entry costs s) end) record {
    below = omega (arith, best.within);
    from_start = refl;
    least = λ i k. grind (arith, best.least);
    first = λ i k. grind (arith, best.first);
  }

  pub least-first : cost_from costs 0 end ≤ cost_from costs s end
      → minimum_of (least_entry costs end) ≡ record { start = 0; cost = cost_from costs 0 end }
  least-first dearer = least_is (entry_from costs.cost 0 (least_entry costs 0) end) record {
    below = omega arith;
    from_start = refl;
    least = λ i k. grind (arith, best.least);
    first = λ i k. absurd (omega arith);
  }

-- ---- a stretch less

stretch_at-take : (q : List Stretch) (n k : ℕ) → k < n → stretch_at (take n q) k ≡ stretch_at q k
stretch_at-take q n k l = get_or-take n q k no_stretch l

pub HaveBest-take : (costs : Costs) (m high n from : ℕ) (q less : List Stretch)
    → HaveBest costs m high q → n + 1 ≡ length q → less ≡ take n q → from ≡ (stretch_at q n).from
    → from ≤ high → HaveBest costs m from less
HaveBest-take costs m high n from q less best len is begins l = rw is (λ end k after before has.
    let old : k < n = omega (arith, length-take n q, has.within) in
    let before' : end < (stretch_at q n).from = omega arith in
    rw (stretch_at-take q n k old)
    (best end k after (omega arith) (search (rules, arith, length-take, stretch_at-take))))

-- what is read
pub stretch_at-read : (q : List Stretch) (i k : ℕ) (s : Stretch) → s ≡ get_or q i s → i ≡ k
    → k < length q → s ≡ stretch_at q k
stretch_at-read q i k s is same within = search (rules, arith, get_or_read)

-- some of the first
pub stretch_at-left : (q old : List Stretch) (n k : ℕ) → q ≡ take n old → k < n
    → stretch_at q k ≡ stretch_at old k
stretch_at-left q old n k is l = ap (λ r. stretch_at r k) is ∙ stretch_at-take old n k l

pub AreRising-left : (q old : List Stretch) (n : ℕ) → q ≡ take n old → AreRising old → AreRising q
AreRising-left q old n is rising = rw is (grind (arith, length-take, stretch_at-take))

-- the stretches after that of an end begin after the end
pub begins_after : (q : List Stretch) (end i k : ℕ) → AreRising q → HasEnd q end i → i < k
    → k < length q → end < (stretch_at q k).from
begins_after q end i k rising has l within = search (rules, arith)

-- the last stretch has all ends from its first on
HasEnd-last : (q : List Stretch) (n end : ℕ) → n + 1 ≡ length q → (stretch_at q n).from ≤ end
    → HasEnd q end n
HasEnd-last q n end len begun = omega arith

pub HasEnd-left : (q old : List Stretch) (n end k : ℕ) → q ≡ take n old → HasEnd old end k
    → k < length q → HasEnd q end k
HasEnd-left q old n end k is has held = search (rules, arith, length-take, stretch_at-left)

-- the stretch of start 1 alone
pub AreStretches-one : (costs : Costs) (q : List Stretch)
    → q ≡ record { start = 1; from = 1; cost = 0 } ∷ [] → 1 < costs.ends → AreStretches costs 1 q
AreStretches-one costs q is l = search (rules, arith)

-- ---- the newest start against the last stretch

module _ (costs : Costs) (suits : SuitQueue costs) (m start : ℕ) (next : start ≡ m + 1)
    (q : List Stretch) (n high : ℕ) (len : n + 1 ≡ length q) (best : HaveBest costs m high q) where
  -- it beats the last stretch at the end c, so it is the best at all its ends from c on
  pub IsBestFrom-beaten : (c : ℕ) → IsBestFrom costs start high → start < c
      → (stretch_at q n).from ≤ c
      → (c < high → cost_from costs start c < cost_from costs (stretch_at q n).start c)
      → IsBestFrom costs start c
  IsBestFrom-beaten c above after begun cheaper = λ end later l. elim (cases_lt end high) [
    | inl near ↦ best_after costs m start next suits (stretch_at q n).start c end
        (best end n (omega arith) near (HasEnd-last q n end len (omega arith))) after later l
        (cheaper (omega arith))
    | inr far ↦ above end far l
  ]

  -- it does not beat the last stretch just before the end c, so none of the others before
  pub HaveBest-kept : (c : ℕ) → (stretch_at q n).from < c → c ≤ high → high ≤ costs.ends
      → (start + 1 < c
      → cost_from costs (stretch_at q n).start (c - 1) ≤ cost_from costs start (c - 1))
      → HaveBest costs start c q
  HaveBest-kept c begun l ends dearer = λ end k after before has.
      let last = best (c - 1) n (omega arith) (omega arith)
      (HasEnd-last q n (c - 1) len (omega arith)) in
      best_before costs m start next suits (stretch_at q k).start (stretch_at q n).start end (c - 1)
      (best end k (omega arith) (omega arith) has) last.positive last.within after (omega arith)
      (omega arith) (dearer (omega arith))

  -- it takes over at the end c, which is not before low
  pub taken_over : (low c : ℕ) → low ≡ max (start + 1) ((stretch_at q n).from + 1) → low ≤ c
      → c ≤ high → high ≤ costs.ends → IsBestFrom costs start high
      → (start < (stretch_at q n).from → cost_from costs (stretch_at q n).start (stretch_at q n).from
      ≤ cost_from costs start (stretch_at q n).from)
      → (low < c → cost_from costs (stretch_at q n).start (c - 1) ≤ cost_from costs start (c - 1))
      → (c < high → cost_from costs start c < cost_from costs (stretch_at q n).start c)
      → HaveBest costs start c q × IsBestFrom costs start c
  taken_over low c is from before l above first between cheaper = (
    HaveBest-kept c (omega arith) before l (λ after. grind (arith, between, first)),
    IsBestFrom-beaten c above (omega arith) (omega arith) cheaper,
  )

-- ---- stretches for one start more, with one more at the end, and without the first ones

priced-left : (costs : Costs) (m start n : ℕ) (old q : List Stretch) → m ≤ start
    → AreStretches costs m old → q ≡ take n old → (k : ℕ) → k < length q
    → IsPriced costs start (stretch_at q k)
priced-left costs m start n old q more are left k l = grind (arith, length-take, stretch_at-left)

pub AreStretches-left : (costs : Costs) (m start n from : ℕ) (old q : List Stretch) → m ≤ start
    → AreStretches costs m old → q ≡ take n old → HaveBest costs start from q → from ≡ costs.ends
    → AreStretches costs start q
AreStretches-left costs m start n from old q more are left best last = record {
  rising = AreRising-left q old n left are.rising;
  priced = priced-left costs m start n old q more are left;
  best = subst (λ h. HaveBest costs start h q) last best;
}

module _ (q more : List Stretch) (s : Stretch) (is : more ≡ q ++ s ∷ []) where
  at_old : (k : ℕ) → k < length q → stretch_at more k ≡ stretch_at q k
  at_old k l = ap (λ r. stretch_at r k) is ∙ get_or_append_left q (s ∷ []) no_stretch k l

  at_new : (k : ℕ) → k ≡ length q → stretch_at more k ≡ s
  at_new k e = ap (λ r. stretch_at r k) is ∙ get_or_push q s no_stretch k (sym e)

  len-more : length more ≡ length q + 1
  len-more = ap length is ∙ length_push q s

  pub HasEnd-push : (end k : ℕ) → HasEnd q end k → end < s.from → HasEnd more end k
  HasEnd-push end k has above = search (rules, arith, len-more, at_old, cases_lt, at_new)

  AreRising-push : AreRising q → (stretch_at q (length q - 1)).from < s.from → 0 < length q
      → AreRising more
  AreRising-push rising later some = search (rules, len-more, at_old, at_new)

  HaveBest-push : (costs : Costs) (start : ℕ) → s.start ≡ start → AreRising more
      → HaveBest costs start s.from q → IsBestFrom costs start s.from
      → HaveBest costs start costs.ends more
  HaveBest-push costs start new rising best above = λ end k after before has.
      elim (cases_lt k (length q)) [
        | inl old ↦
            let next = has.before_next (omega (arith, len-more)) in
            let before_new : end < s.from =
            grind (arith, next, rising (k + 1) (length q), at_new (length q) refl, len-more) in
            rw (at_old k old) (best end k after before_new record {
              within = old;
              begun = rw (at_old k old) at has.begun;
              before_next = λ l. rw (at_old (k + 1) l) at next;
            })
        | inr last ↦
            let e : k ≡ length q = omega (arith, has.within, len-more) in
            let begun = rw (at_new k e) at has.begun in
            rw (at_new k e, new) (above end begun before)
      ]

  pub AreStretches-push : (costs : Costs) (m start n : ℕ) (old : List Stretch) → m ≤ start
      → AreStretches costs m old → q ≡ take n old → 0 < length q → IsPriced costs start s
      → s.start ≡ start → (stretch_at q (length q - 1)).from < s.from
      → HaveBest costs start s.from q → IsBestFrom costs start s.from → AreStretches costs start more
  AreStretches-push costs m start n old l are left some priced new later best above =
      let rising = AreRising-push (AreRising-left q old n left are.rising) later some in
      record {
        rising = rising;
        priced = λ k held. elim (cases_lt k (length q)) [
          | inl less ↦ rw (at_old k less) (priced-left costs m start n old q l are left k less)
          | inr last ↦ rw (at_new k (omega (arith, len-more))) priced
        ];
        best = HaveBest-push costs start new rising best above;
      }

stretch_at-drop : (q : List Stretch) (n k : ℕ) → stretch_at (drop n q) k ≡ stretch_at q (n + k)
stretch_at-drop q n k = get_or-drop n q k no_stretch

HasEnd-whole : (q : List Stretch) (n end k : ℕ) → HasEnd (drop n q) end k → HasEnd q end (n + k)
HasEnd-whole q n end k has = grind (arith, length-drop, stretch_at-drop)

pub AreStretches-drop : (costs : Costs) (m n : ℕ) (q : List Stretch) → AreStretches costs m q
    → AreStretches costs m (drop n q)
AreStretches-drop costs m n q are = record {
  rising = λ i k l held. rw (stretch_at-drop q n i, stretch_at-drop q n k)
      (are.rising (n + i) (n + k) (omega arith) (omega (arith, length-drop n q, held)));
  priced = λ k held. rw (stretch_at-drop q n k)
      (are.priced (n + k) (omega (arith, length-drop n q, held)));
  best = λ end k after before has. rw (stretch_at-drop q n k)
      (are.best end (n + k) after before (HasEnd-whole q n end k has));
}
