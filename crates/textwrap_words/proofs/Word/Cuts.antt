-- Offsets of which each may follow the one before it: by index, with one more, and in other words.
use Rattle.textwrap_text.proofs.Common.{All-head, All-tail, get_or, get_or_default, IsNonDecreasing}
use Rattle.textwrap_text.proofs.Common.{All, arith, length, List, rules, suc, zero, ◌++◌, ◌+◌, ◌<◌}
use Rattle.textwrap_text.proofs.Common.{[], ℕ, ⊤, ◌↔◌, ◌∷◌, ◌≡◌, ◌≤◌}
use Rattle.std.proofs.lemmas.List.Sorted.{IsNonDecreasingBy-from_all_adjacent}
use Rattle.std.specs.List.Sorted.{IsStrictlyIncreasing}
use Rattle.textwrap_words.proofs.Common.{AreNext, IsNextCut, IsNextPoint}
use Rattle.textwrap_words.specs.Cuts.{AreCuts, AreInnerCuts}

module _ (IsNext : ℕ → ℕ → Type 0) where
  pub next-at : (offsets : List ℕ) (last k : ℕ) → AreNext IsNext offsets last → k < length offsets
      → IsNext (get_or (last ∷ offsets) k 0) (get_or offsets k 0)
  next-at [] last k are within = absurd (omega arith)
  next-at (offset ∷ offsets) last zero (here, rest) within = here
  next-at (offset ∷ offsets) last (suc k) (here, rest) within =
      next-at offsets offset k rest (omega arith)

  next-each : (offsets : List ℕ) (last : ℕ)
      → ((k : ℕ) → k < length offsets → IsNext (get_or (last ∷ offsets) k 0) (get_or offsets k 0))
      → AreNext IsNext offsets last
  next-each [] last each = tt
  next-each (offset ∷ offsets) last each =
      (each 0 (omega arith), next-each offsets offset (λ k within. each (suc k) (omega arith)))

  pub next-by_index : (offsets : List ℕ) (last : ℕ) → AreNext IsNext offsets last
      ↔ ((k : ℕ) → k < length offsets → IsNext (get_or (last ∷ offsets) k 0) (get_or offsets k 0))
  next-by_index offsets last = search (rules, arith, next-at, next-each)

  pub next-push : (offsets : List ℕ) (offset last : ℕ) → AreNext IsNext offsets last
      → IsNext (get_or (last ∷ offsets) (length offsets) 0) offset
      → AreNext IsNext (offsets ++ offset ∷ []) last
  next-push [] offset last are next = (next, tt)
  next-push (first ∷ offsets) offset last (here, rest) next =
      (here, next-push offsets offset first rest next)

  pub next-in_order : (offsets : List ℕ) (last : ℕ)
      → ((before after : ℕ) → IsNext before after → before ≤ after) → AreNext IsNext offsets last
      → IsNonDecreasing (last ∷ offsets)
  next-in_order offsets last order are =
      IsNonDecreasingBy-from_all_adjacent (λ x. x) (last ∷ offsets) (λ k d within.
      let inside : k < length offsets = omega (arith, within) in
      let next : suc k ≡ k + 1 = omega arith in
      rw (← next) (omega (
        arith,
        order _ _ (next-at offsets last k are inside),
        get_or_default (last ∷ offsets) k 0 d (omega (arith, within)),
        get_or_default offsets k 0 d inside,
      )))

  pub next-increasing : (offsets : List ℕ) (last : ℕ)
      → ((before after : ℕ) → IsNext before after → before < after) → AreNext IsNext offsets last
      → IsStrictlyIncreasing (last ∷ offsets)
  next-increasing offsets last above are k within =
      let next : suc k ≡ k + 1 = omega arith in
      rw (← next) (above _ _ (next-at offsets last k are (omega (arith, within))))

-- each of them passes a test, and so may follow by another one
pub next-with : (IsNext IsOther : ℕ → ℕ → Type 0) (P : ℕ → Type 0)
    → ((last offset : ℕ) → IsNext last offset → P offset → IsOther last offset)
    → (offsets : List ℕ) (last : ℕ) → AreNext IsNext offsets last → All P offsets
    → AreNext IsOther offsets last
next-with IsNext IsOther P other [] last are all = tt
next-with IsNext IsOther P other (offset ∷ offsets) last (here, rest) all = (
  other last offset here (All-head P offset offsets all),
  next-with IsNext IsOther P other offsets offset rest (All-tail P offset offsets all),
)

pub inner-cuts : (text cuts : List ℕ) → AreInnerCuts text cuts → AreCuts text cuts
inner-cuts text cuts are =
    next-with (IsNextCut text) (IsNextPoint text) (λ cut. ⊤)
    (λ last cut (after, inside, at) all. (omega (arith, after), inside, at)) cuts 0 are
    (λ k d within. tt)
