-- Running sums of the widths of fragments, and what lines take and cost by them.
use Rattle.textwrap_text.proofs.Common.{arith, get_or, length, length-map, List, slice_range, take}
use Rattle.textwrap_text.proofs.Common.{ap, map, sym, ℕ, ◌+◌, ◌-◌, ◌<◌, ◌^◌, ◌∙◌, ◌≡◌, ◌≤◌}
use Rattle.std.proofs.Common.{sum, sum_by}
use Rattle.std.proofs.lemmas.{List.Sums.sum-map, List.Sums.sum_by_more_le_part, Simd.map-map}
use Rattle.textwrap_base.{proofs.Cost.LineCosts.line_costs-map, specs.PrefixSums.HavePrefixSums}
use Rattle.textwrap_base.proofs.Common.{closed_width, fragment_costs, PricedSizes, total_width}
use Rattle.textwrap_base.proofs.Common.{Measure, measured, open_width, Problem, Sizes}
use Rattle.textwrap_base.proofs.Cost.LineCosts.{closed_width-slice, open_width-slice, priced_alone}

abbrev pub measured_sizes : Measure → Sizes
measured_sizes m = (measured m).sizes

-- ---- measures

-- with what stands before it, a fragment keeps to all widths together
pub open_width-total : {X : Type 0} (sizes : X → Sizes) (xs : List X) (k : ℕ) (d : X)
    → k < length xs
    → open_width sizes (take k xs) +
    ((sizes (get_or xs k d)).width + (sizes (get_or xs k d)).whitespace +
    (sizes (get_or xs k d)).penalty) ≤ total_width sizes xs
open_width-total {X = X} sizes xs k d l = grind (arith, sum_by_more_le_part)

-- what a line takes by where its first fragment opens and its last one closes
pub record TakesBySums {X : Type 0} (sizes : X → Sizes) (opened closed : ℕ) (line : List X)
    : Type 0 where
  pub ordered : opened ≤ closed
  pub fits : closed < 2 ^ 128
  pub takes : closed - opened ≡ closed_width sizes line

pub takes_by_sums : {X : Type 0} {priced : X → PricedSizes} {opens closes : X → ℕ} {xs : List X}
    {i j : ℕ} {first last : X} → HavePrefixSums priced opens closes xs → i < j → j ≤ length xs
    → first ≡ get_or xs i first → last ≡ get_or xs (j - 1) last
    → TakesBySums (λ x. (priced x).sizes) (opens first) (closes last) (slice_range xs i j)
takes_by_sums measured ordered within is_first is_last = grind (arith, open_width-slice, open_width-total, closed_width-slice)

-- ---- measures of fragments

pub sizes-same : {X Y : Type 0} (priced : X → PricedSizes) (others : Y → PricedSizes) (xs : List X)
    (ys : List Y) → map priced xs ≡ map others ys
    → map (λ x. (priced x).sizes) xs ≡ map (λ y. (others y).sizes) ys
sizes-same priced others xs ys e = sym (map-map (λ (p : PricedSizes). p.sizes) priced xs)
    ∙ ap (map (λ (p : PricedSizes). p.sizes)) e ∙ map-map (λ (p : PricedSizes). p.sizes) others ys

-- equal sizes have equal widths
sums-same : {X Y : Type 0} (f : Sizes → ℕ) (sizes : X → Sizes) (others : Y → Sizes) (xs : List X)
    (ys : List Y) → map sizes xs ≡ map others ys
    → sum_by (λ x. f (sizes x)) xs ≡ sum_by (λ y. f (others y)) ys
sums-same f sizes others xs ys e = sym (sum-map (λ x. f (sizes x)) xs)
    ∙ ap sum (sym (map-map f sizes xs) ∙ ap (map f) e ∙ map-map f others ys)
    ∙ sum-map (λ y. f (others y)) ys

pub open_width-same : {X Y : Type 0} (sizes : X → Sizes) (others : Y → Sizes) (xs : List X)
    (ys : List Y) → map sizes xs ≡ map others ys → open_width sizes xs ≡ open_width others ys
open_width-same = sums-same (λ s. s.width + s.whitespace)

pub total_width-same : {X Y : Type 0} (sizes : X → Sizes) (others : Y → Sizes) (xs : List X)
    (ys : List Y) → map sizes xs ≡ map others ys → total_width sizes xs ≡ total_width others ys
total_width-same = sums-same (λ s. s.width + s.whitespace + s.penalty)

pub fragment_costs-map : {X : Type 0} (problem : Problem X)
    → fragment_costs (priced_alone problem) ≡ fragment_costs problem
fragment_costs-map problem = cc (length-map problem.fragments problem.priced, line_costs-map problem)
