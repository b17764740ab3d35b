-- The levels of a dotted word, once the patterns that stand at its first places are known.
use Rattle.std.proofs.lemmas.{Grind.same_number_lists, List.FromFn.get_or-map-range_with_len}
use Rattle.std.proofs.lemmas.List.FromFn.{length-map-range_with_len, map-range_with_len_more}
use Rattle.textwrap_hyphens.proofs.Common.{List, ℕ, ◌≡◌, ◌+◌, ◌-◌, ◌≤◌, ◌<◌, ◌∷◌, [], ◌∙◌, ap, arith, drop}
use Rattle.textwrap_hyphens.proofs.Common.{length, map, max, min, take, dotted, get_or, get_or-take}
use Rattle.textwrap_hyphens.proofs.Common.{greatest, length-append, length-take, level, levels_of}
use Rattle.textwrap_hyphens.proofs.Common.{range_with_len, suc}
use Rattle.textwrap_patterns.proofs.GreatestNumbers.{greatest-append}

-- the levels of what stands at the beginning of a text, by place
abbrev pub Levels : Type 0
Levels = List ℕ → ℕ → ℕ

-- the greatest level at a place that something has which begins at one of the first n places
abbrev pub level_before : Levels → List ℕ → ℕ → ℕ → ℕ
level_before from dotted n k =
    greatest (map (λ at. from (drop at dotted) (k - at)) (range_with_len 0 (min n (suc k))))

numbers-before : (f : ℕ → ℕ) (n m : ℕ) → n ≡ m
    → greatest (map f (range_with_len 0 n)) ≡ greatest (map f (range_with_len 0 m))
numbers-before f n m same = ap (λ l. greatest (map f (range_with_len 0 l))) same

pub before-none : (from : Levels) (dotted : List ℕ) (k : ℕ) → level_before from dotted 0 k ≡ 0
before-none from dotted k = grind (arith, numbers-before, dotted)

pub before-here : (from : Levels) (dotted : List ℕ) (at k : ℕ) → at ≤ k
    → level_before from dotted (at + 1) k
    ≡ max (level_before from dotted at k) (from (drop at dotted) (k - at))
before-here from dotted at k le =
    let f = λ (n : ℕ). from (drop n dotted) (k - n) in
    let more = numbers-before f (min (at + 1) (suc k)) (at + 1) (omega arith)
    ∙ ap greatest (map-range_with_len_more f 0 at at (omega arith))
    ∙ greatest-append (map f (range_with_len 0 at)) (f at ∷ []) in
    let same = numbers-before f (min at (suc k)) at (omega arith) in
    omega (arith, more, same)

pub before-past : (from : Levels) (dotted : List ℕ) (at k : ℕ) → k < at
    → level_before from dotted (at + 1) k ≡ level_before from dotted at k
before-past from dotted at k past = grind (arith, numbers-before, dotted)

pub before-all : (from : Levels) (dotted : List ℕ) (n k : ℕ) → k < n
    → level_before from dotted n k ≡ level from dotted k
before-all from dotted n k within = grind (arith, numbers-before, dotted)

-- levels that were 0, once all are raised
pub levels-all : (from : Levels) (letters ds zeros now : List ℕ) → ds ≡ dotted letters
    → length zeros ≤ length ds + 1 → ((k : ℕ) → k < length zeros → get_or zeros k 0 ≡ 0)
    → length now ≡ length zeros
    → ((k : ℕ) → k < length zeros → get_or now k 0 ≡ max (get_or zeros k 0) (level from ds k))
    → now ≡ take (length zeros) (levels_of from letters)
levels-all from letters ds zeros now are len none same raised = grind (
  arith,
  level,
  dotted,
  length-append,
  same_number_lists,
  levels_of,
  length-map-range_with_len,
  get_or-map-range_with_len,
  get_or-take,
  length-take,
)
