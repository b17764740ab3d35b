-- How long texts are together and joined, and bounds that a number may not hold.
use Rattle.std.proofs.Math.Nat.{mul_comm}
use Rattle.textwrap.proofs.Common.{zero, either_short, length-append, join_with, ℕ, flat_map}
use Rattle.textwrap.proofs.Common.{length, arith, List, map, suc, ◌*◌, ◌+◌, ◌∙◌, ◌∷◌, ◌≡◌, ◌≤◌, []}
use Rattle.textwrap.proofs.Common.{ap, flat_map-map, flat}
use Rattle.textwrap_calls.{proofs.Common.flat_map-append, specs.Bounds.{as_len, Suffices}}
use Rattle.textwrap_plain.proofs.Balance.Counts.{flat-plus}

-- ---- how long texts are together and joined

module _ {X : Type 0} where
  pub flat-each : (f g : X → List ℕ) (more : ℕ) → ((x : X) → length (f x) ≤ more + length (g x))
      → (xs : List X) → length (flat_map f xs) ≤ length xs * more + length (flat_map g xs)
  flat-each f g more each [] = omega arith
  flat-each f g more each (x ∷ xs) =
      omega (arith, each x, flat-each f g more each xs, length-append {A = ℕ})

-- row by row texts are as long as column by column
pub by-columns : {X Y : Type 0} (text : X → Y → List ℕ) (xs : List X) (ys : List Y)
    → length (flat_map (λ x. flat_map (text x) ys) xs)
    ≤ length (flat (flat_map (λ y. map (λ x. text x y) xs) ys))
by-columns text xs [] = omega (arith, flat-plus (λ x. []) (λ x. []) xs)
by-columns text xs (y ∷ ys) =
    let here = map (λ x. text x y) xs in
    let others = flat_map (λ z. map (λ x. text x z) xs) ys in
    omega (
      arith,
      flat-plus (λ x. text x y) (λ x. flat_map (text x) ys) xs,
      by-columns text xs ys,
      ap length (flat_map-map (λ part. part) (λ x. text x y) xs),
      ap length (flat_map-append (λ part. part) here others),
      length-append {A = ℕ},
    )

pub texts-joined : (ending x : List ℕ) (xs : List (List ℕ))
    → length (join_with ending (x ∷ xs)) ≡ length (flat (x ∷ xs)) + length xs * length ending
texts-joined ending x [] = omega (arith, length-append {A = ℕ})
texts-joined ending x (y ∷ xs) = omega (arith, texts-joined ending y xs, length-append {A = ℕ})

-- ---- A bound that a number may not hold

-- a bound that a number does not hold stays at the greatest
pub within-limit : {needed most bound : ℕ} → needed ≤ most → bound ≡ as_len most
    → Suffices bound needed
within-limit within is = grind (arith, either_short)

-- ---- sums and products, step by step

factor-as_len : (a x y : ℕ) → x ≡ as_len a → as_len (x * y) ≡ as_len (a * y)
factor-as_len a x zero is = omega arith
factor-as_len a x (suc n) is = grind arith

product-as_len : (a b x y : ℕ) → x ≡ as_len a → y ≡ as_len b → as_len (x * y) ≡ as_len (a * b)
product-as_len a b x y x_is y_is =
    factor-as_len a x y x_is ∙ ap as_len (mul_comm a y) ∙ factor-as_len b y a y_is
    ∙ ap as_len (mul_comm b a)

pub sum-as_len : (a b c x y z product sum : ℕ) → x ≡ as_len a → y ≡ as_len b → z ≡ as_len c
    → product ≡ as_len (x * y) → sum ≡ as_len (product + z) → sum ≡ as_len (a * b + c)
sum-as_len a b c x y z product sum x_is y_is z_is product_is sum_is =
    omega (arith, product-as_len a b x y x_is y_is, z_is, product_is, sum_is)
