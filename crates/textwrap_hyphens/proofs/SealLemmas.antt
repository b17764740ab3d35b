-- Numbers that begin with the version and end in the sum of those before it are sealed.
use Rattle.std.proofs.Common.{eq-eqb, List, [], arith, length, length-append, slice_index, true, ℕ}
use Rattle.std.proofs.{Common.{◌++◌, ◌∷◌, ◌≡◌, ◌≤◌}, Math.Seq.take-append_seam}
use Rattle.textwrap_hyphens.{proofs.TableOf.from_end-tail, specs.Seal.{is_sealed, sum_of, version}}

pub is-sealed : (first : List ℕ) (sum : ℕ) → 12 ≤ length first → slice_index first 0 ≡ version
    → sum ≡ sum_of first → is_sealed (first ++ sum ∷ []) ≡ true
is-sealed [] sum long begins is = absurd (omega (arith, long))
is-sealed (v ∷ rest) sum long begins is = grind (
  arith,
  length-append (v ∷ rest) (sum ∷ []),
  take-append_seam (v ∷ rest) (sum ∷ []),
  from_end-tail (v ∷ rest) (sum ∷ []) 1 (omega arith),
  eq-eqb sum (sum_of (v ∷ rest)) is,
)
