-- Patterns among others have levels that are no higher.
use Rattle.std.specs.Prelude.{Contains}
use Rattle.textwrap_text.proofs.Lists.Elements.{contains-cases, contains-nil}
use Rattle.textwrap_hyphens.proofs.Common.{List, ℕ, ◌≤◌, ◌∷◌, [], All, All-head, All-tail, ap}
use Rattle.textwrap_hyphens.proofs.Common.{arith, inl, inr, map}
use Rattle.textwrap_hyphens.proofs.Common.{PatternText, greatest, level, pattern_level_from, level_in}

level-among : (others : List PatternText) (p : PatternText) (text : List ℕ) (place : ℕ)
    → Contains others p → level_in p text place ≤ pattern_level_from others text place
level-among [] p text place among = absurd (contains-nil p among)
level-among (q ∷ others) p text place among = elim (contains-cases q p others among) [
  | inl same ↦ let here = ap (λ (r : PatternText). level_in r text place) same in
      omega (arith, here)
  | inr later ↦ let below = level-among others p text place later in omega (arith, below)
]

level_from-more : (patterns others : List PatternText) (text : List ℕ) (place : ℕ)
    → All (λ p. Contains others p) patterns
    → pattern_level_from patterns text place ≤ pattern_level_from others text place
level_from-more [] others text place all = omega arith
level_from-more (p ∷ patterns) others text place all =
    let here = level-among others p text place
    (All-head (λ (q : PatternText). Contains others q) p patterns all) in
    let more = level_from-more patterns others text place
    (All-tail (λ (q : PatternText). Contains others q) p patterns all) in
    omega (arith, here, more)

greatest-each : (f g : ℕ → ℕ) → ((n : ℕ) → f n ≤ g n) → (ns : List ℕ)
    → greatest (map f ns) ≤ greatest (map g ns)
greatest-each f g each [] = omega arith
greatest-each f g each (n ∷ ns) = omega (arith, each n, greatest-each f g each ns)

pub level-more : (patterns others : List PatternText) (dotted : List ℕ) (place : ℕ)
    → All (λ p. Contains others p) patterns
    → level (pattern_level_from patterns) dotted place ≤ level (pattern_level_from others) dotted place
level-more patterns others dotted place all =
    grind (arith, greatest-each, pattern_level_from, level_from-more)
