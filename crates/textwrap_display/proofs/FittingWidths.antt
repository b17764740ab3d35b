-- What columns need, and widths that fit: shares in proportion, and that they add up.
use Rattle.std.proofs.{Common.sum, Math.Nat.div-lt_iff_lt-mul}
use Rattle.std.proofs.Math.Nat.{le_of_mul-le-mul_left, lt-div-mul-add, mul-add, mul-div-le}
use Rattle.std.proofs.Math.Nat.{mul-le-mul_right, mul-lt-mul_of_pos_left, mul_comm, zero-div}
use Rattle.std.{proofs.lemmas.List.Sums.fold-append, proofs.lemmas.List.Sums.sum_by-le, specs.List.fold}
use Rattle.textwrap_display.proofs.Common.{AllZip, column_texts, flat_map, sure, text_width, widest}
use Rattle.textwrap_display.proofs.TableGroups.{AllZip-weaker, IsFirstGroup, groups-more}
use Rattle.textwrap_display.specs.Fitting.{fitting_widths, lacking, rounded_up, shared, widest_line}
use Rattle.textwrap_display.specs.{Fitting.widest_word, Sharing.Shares, Sharing.rounded_down, Sharing.weight}
use Rattle.textwrap_display.specs.declared.{fitting.Sharing.Sharing, needs.Need.Need}
use Rattle.textwrap_text.proofs.Common.{List, [], ap, arith, cases_lt, get_or, length, map}
use Rattle.textwrap_text.proofs.Common.{max, min, refl, rules, sum_by, sum_by-cons, ℕ}
use Rattle.textwrap_text.proofs.Common.{◌*◌, ◌++◌, ◌+◌, ◌-◌, ◌/◌, ◌<◌, ◌∙◌, ◌∷◌, ◌≡◌, ◌≤◌}

-- what is wider already stays
widest-from : {X : Type 0} (f : X → ℕ) (most : ℕ) (xs : List X)
    → fold (λ most x. max most (f x)) most xs ≡ max most (fold (λ most x. max most (f x)) 0 xs)
widest-from f most [] = omega arith
widest-from f most (x ∷ xs) = omega (arith, widest-from f (max most (f x)) xs, widest-from f (max 0 (f x)) xs)

pub widest-append : (first second : List (List ℕ))
    → widest (first ++ second) ≡ max (widest first) (widest second)
widest-append first second = fold-append (λ most text. max most (text_width text)) 0 first second
    ∙ widest-from text_width (widest first) second

-- the widest part of all is the widest of the widest parts of each
pub widest-parts : {X : Type 0} (parts : X → List (List ℕ)) (xs : List X)
    → fold (λ most x. max most (widest (parts x))) 0 xs ≡ widest (flat_map parts xs)
widest-parts parts [] = refl
widest-parts parts (x ∷ xs) =
    let more = widest-from (λ x. widest (parts x)) (max 0 (widest (parts x))) xs in
    omega (arith, more, widest-parts parts xs, widest-append (parts x) (flat_map parts xs))

-- with one row more
pub column_texts-more : (columns at : ℕ) (cells row rest : List (List ℕ))
    → IsFirstGroup columns cells row rest
    → column_texts columns cells at ≡ get_or row at [] ∷ column_texts columns rest at
column_texts-more columns at cells row rest first =
    ap (map (λ texts. get_or texts at [])) (groups-more columns cells row rest first)

module _ (parts : List ℕ → List (List ℕ)) (columns at most : ℕ) where
  pub widest-more : (cells row rest : List (List ℕ)) → IsFirstGroup columns cells row rest
      → max (max most (widest (parts (get_or row at []))))
      (widest (flat_map parts (column_texts columns rest at)))
      ≡ max most (widest (flat_map parts (column_texts columns cells at)))
  widest-more cells row rest first = search (rules, arith, column_texts-more, widest-append)

-- ---- shares in proportion

-- the product of a number with 0 or 1
pub times-one : (k w : ℕ) → 0 < w → k * min w 1 ≡ k
times-one k w some = let one : min w 1 ≡ 1 = omega arith in rw one (omega arith)

module _ (weight : Need → ℕ) (left weights : ℕ) (some : 0 < weights) where
  abbrev pub share : Need → ℕ
  share need = left * weight need / weights

  abbrev pub one : Need → ℕ
  one need = min (weight need) 1

  -- a share is what it is in full, but for less than one
  pub share-close : (need : Need) → left * weight need ≤ weights * share need + (weights - 1) * one need
  share-close need = grind (arith, lt-div-mul-add {a = left * weight need} some, times-one, mul_comm)

  pub shares-few : (needs : List Need) → weights * sum_by share needs ≤ left * sum_by weight needs
  shares-few [] = omega arith
  shares-few (need ∷ needs) = simp (sum_by-cons, mul-add)
      (omega (arith, shares-few needs, mul-div-le (left * weight need) weights))

  pub shares-close : (needs : List Need)
      → left * sum_by weight needs ≤ weights * sum_by share needs + (weights - 1) * sum_by one needs
  shares-close [] = omega arith
  shares-close (need ∷ needs) =
      simp (sum_by-cons, mul-add) (omega (arith, shares-close needs, share-close need))

-- the shares are what is shared, but for one at most for each column that has a weight
pub shares-within : (weight : Need → ℕ) (left : ℕ) (needs : List Need) → 0 < sum_by weight needs
    → let all = sum_by (λ need. left * weight need / sum_by weight needs) needs in
    (all ≤ left) × (left ≤ all + sum_by (λ need. min (weight need) 1) needs)
shares-within weight left needs some =
    let weights = sum_by weight needs in
    let all : ℕ = sum_by (share weight left weights some) needs in
    let ones : ℕ = sum_by (one weight left weights some) needs in
    let few = shares-few weight left weights some needs in
    let close = shares-close weight left weights some needs in
    let low : weights * all ≤ weights * left = omega (arith, few, mul_comm weights left) in
    let up = mul-le-mul_right {m = weights - 1} {n = weights} ones (omega arith) in
    let high : weights * left ≤ weights * (all + ones) =
    rw mul-add (omega (arith, close, mul_comm weights left, up)) in
    (le_of_mul-le-mul_left low some, le_of_mul-le-mul_left high some)

-- ---- what rounding leaves over

pub rounded-sum : (width weight : Need → ℕ) (over : ℕ) (needs : List Need)
    → sum (rounded_up width weight over needs)
    ≡ sum_by width needs + min over (sum_by (λ need. min (weight need) 1) needs)
rounded-sum width weight over [] = omega arith
rounded-sum width weight over (need ∷ needs) =
    simp sum_by-cons (omega (arith, rounded-sum width weight (over - min over (min (weight need) 1)) needs))

-- ---- all of the total

pub sum_by-add : (f g : Need → ℕ) (needs : List Need)
    → sum_by (λ need. f need + g need) needs ≡ sum_by f needs + sum_by g needs
sum_by-add f g [] = refl
sum_by-add f g (need ∷ needs) = simp sum_by-cons (omega (arith, sum_by-add f g needs))

pub shared-sum : (sure weight : Need → ℕ) (total : ℕ) (needs : List Need) → sum_by sure needs ≤ total
    → 0 < sum_by weight needs → sum (shared sure weight total needs) ≡ total
shared-sum sure weight total needs room some =
    let left : ℕ = total - sum_by sure needs in
    let share : Need → ℕ = λ (need : Need). left * weight need / sum_by weight needs in
    rw (rounded-sum (λ (need : Need). sure need + share need) weight)
    (omega (arith, shares-within weight left needs some, sum_by-add sure share needs))

-- ---- which needs have room

module _ (total : ℕ) (needs : List Need) (P : List ℕ → Type 0) where
  pub fitting-cases : (sum_by widest_line needs ≤ total → sum_by widest_line needs ≡ 0
      → P (shared widest_line (λ need. 1) total needs))
      → (sum_by widest_line needs ≤ total → 0 < sum_by widest_line needs
      → P (shared widest_line widest_line total needs))
      → (total < sum_by widest_line needs → sum_by widest_word needs ≤ total
      → P (shared widest_word lacking total needs)) → (total < sum_by widest_word needs
      → P (shared (λ need. 0) widest_word total needs)) → P (fitting_widths total needs)
  fitting-cases even lines words none = search (rules, arith)

-- what the columns have in all is what they have one by one
pub sum_by-none : (needs : List Need) → sum_by (λ need. 0) needs ≡ 0
sum_by-none needs = omega (arith, sum_by-le (λ (need : Need). 0) 0 needs (λ k d within. omega arith))

pub sum_by-one : (needs : List Need) → sum_by (λ need. 1) needs ≡ length needs
sum_by-one [] = refl
sum_by-one (need ∷ needs) = rw sum_by-cons (omega (arith, sum_by-one needs))

pub sum_by-wanted : (needs : List Need) → sum_by widest_line needs
    ≡ sum_by widest_word needs + sum_by lacking needs
sum_by-wanted [] = refl
sum_by-wanted (need ∷ needs) = simp sum_by-cons (omega (arith, sum_by-wanted needs))

pub ruleset all_needs = (sum_by-none, sum_by-one, sum_by-wanted)

pub fitting-sum : (total : ℕ) (needs : List Need) → 0 < length needs
    → sum (fitting_widths total needs) ≡ total
fitting-sum total needs some =
    let none = sum_by-none needs in
    let all = sum_by-wanted needs in
    fitting-cases total needs (λ widths. sum widths ≡ total)
    (λ room empty. shared-sum widest_line (λ need. 1) total needs room (omega (arith, sum_by-one needs)))
    (shared-sum widest_line widest_line total needs)
    (λ scarce room. shared-sum widest_word lacking total needs room (omega arith))
    (λ scarce. shared-sum (λ need. 0) widest_word total needs (omega arith) (omega arith))

-- ---- no column is narrower than what is sure, nor wider than its weight lets it

module _ (width weight : Need → ℕ) (R : Need → ℕ → Type 0) where
  pub rounded-all : (over : ℕ) (needs : List Need)
      → ((need : Need) (one : ℕ) → one ≤ over → one ≤ min (weight need) 1 → R need (width need + one))
      → AllZip R needs (rounded_up width weight over needs)
  rounded-all over [] each = tt
  rounded-all over (need ∷ needs) each =
      search (rules, arith, rounded-all (over - min over (min (weight need) 1)) needs)

-- a share of less than all weights together is less than its weight
pub share-less : (left weight weights one : ℕ) → left < weights → one ≤ min weight 1
    → left * weight / weights + one ≤ weight
share-less left weight weights one less at =
    search (rules, arith, cases_lt, zero-div, div-lt_iff_lt-mul, mul_comm, mul-lt-mul_of_pos_left)

module _ (sure weight : Need → ℕ) (total : ℕ) (needs : List Need) where
  -- what a column gets, by what is left of the total beside what is sure
  pub record IsShare (need : Need) (width : ℕ) : Type 0 where
    pub least : sure need ≤ width
    pub exact : total ≤ sum_by sure needs → width ≡ sure need
    pub most : total - sum_by sure needs < sum_by weight needs → width ≤ sure need + weight need

  pub shared-all : AllZip IsShare needs (shared sure weight total needs)
  shared-all =
      let left : ℕ = total - sum_by sure needs in
      let weights : ℕ = sum_by weight needs in
      let share : Need → ℕ = λ (need : Need). left * weight need / weights in
      let width : Need → ℕ = λ (need : Need). sure need + share need in
      let all : sum_by width needs ≡ sum_by sure needs + sum_by share needs = sum_by-add sure share needs in
      rounded-all width weight IsShare (total - sum_by width needs) needs (λ need one over at. record {
        least = omega arith;
        exact = λ few. grind (arith, zero-div);
        most = λ less. omega (arith, share-less left (weight need) weights one less at);
      })

-- by what has room
module _ (total : ℕ) (needs : List Need) where
  record IsFitting (need : Need) (width : ℕ) : Type 0 where
    words : sum_by widest_word needs ≤ total → need.least ≤ width
    lines : sum_by widest_line needs ≤ total → widest_line need ≤ width
    within : total ≤ sum_by widest_line needs → width ≤ widest_line need
    scarce : total < sum_by widest_word needs → width ≤ need.least

  fitting-all : AllZip IsFitting needs (fitting_widths total needs)
  fitting-all =
      let all = sum_by-wanted needs in
      let none = sum_by-none needs in
      let each = λ (sure weight : Need → ℕ) (is : (need : Need) (width : ℕ)
      → IsShare sure weight total needs need width → IsFitting need width).
      AllZip-weaker (IsShare sure weight total needs) IsFitting is needs
      (shared sure weight total needs) (shared-all sure weight total needs) in
      fitting-cases total needs (AllZip IsFitting needs)
      (λ room empty. each widest_line (λ need. 1) (λ need width share. omega arith))
      (λ room some. each widest_line widest_line (λ need width share. omega arith))
      (λ scarce room. each widest_word lacking (λ need width share. omega arith))
      (λ scarce. each (λ need. 0) widest_word (λ need width share. omega arith))

  pub fitting-least : sum_by widest_word needs ≤ total
      → AllZip (λ need width. need.least ≤ width) needs (fitting_widths total needs)
  fitting-least room = AllZip-weaker _ _ (λ need width fit. fit.words room) _ _ fitting-all

  pub fitting-most : sum_by widest_line needs ≤ total
      → AllZip (λ need width. widest_line need ≤ width) needs (fitting_widths total needs)
  fitting-most room = AllZip-weaker _ _ (λ need width fit. fit.lines room) _ _ fitting-all

  pub fitting-within : total ≤ sum_by widest_line needs
      → AllZip (λ need width. width ≤ widest_line need) needs (fitting_widths total needs)
  fitting-within few = AllZip-weaker _ _ (λ need width fit. fit.within few) _ _ fitting-all

  pub fitting-scarce : total < sum_by widest_word needs
      → AllZip (λ need width. width ≤ need.least) needs (fitting_widths total needs)
  fitting-scarce few = AllZip-weaker _ _ (λ need width fit. fit.scarce few) _ _ fitting-all

-- what the program shares out, from the sums that it has
pub shared-with : (sharing : Sharing) (total : ℕ) (needs : List Need) → Shares sharing total needs
    → rounded_up (rounded_down sharing) (weight sharing.basis)
    (total - sum_by (rounded_down sharing) needs) needs
    ≡ shared (sure sharing.basis) (weight sharing.basis) total needs
shared-with sharing total needs shares =
    let left : sharing.left ≡ total - sum_by (sure sharing.basis) needs = omega (arith, shares.left) in
    rw (left, shares.weights) refl

pub ruleset shares_known = (shared-with)
