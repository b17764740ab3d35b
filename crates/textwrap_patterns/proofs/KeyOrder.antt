-- Which of two keys stands before the other.
use Rattle.std.proofs.{Common.bytes_eq, lemmas.Cmp.nat_list_cmp_total}
use Rattle.std.proofs.lemmas.{Cmp.same_from_slice_cmp, Slice.Eq.bytes_eq-Decides}
use Rattle.std.specs.{Cmp.Lexicographic.slice_cmp, Ordering.is_eq, Ordering.is_lt, Ordering.nat_cmp}
use Rattle.std.specs.{Ordering.ordering_reverse, declared.cmp.Ordering.Ordering}
use Rattle.std.specs.declared.cmp.Ordering.TheVariants.{Less, Equal, Greater}
use Rattle.textwrap_patterns.specs.Entries.{is_before}
use Rattle.textwrap_text.proofs.Common.{ap, arith, Bool, false, false≢true, inl, inr, List}
use Rattle.textwrap_text.proofs.Common.{nat_tests, not, refl, rules, subst, sym, true, true≢false}
use Rattle.textwrap_text.proofs.Common.{ℕ, ◌&&◌, ◌≡◌, ◌≢◌, ◌∙◌, ◌⊎◌}

same-order : (xs ys : List ℕ) → is_eq (slice_cmp nat_cmp xs ys) ≡ bytes_eq xs ys
same-order xs ys =
    same_from_slice_cmp nat_cmp is_eq bytes_eq refl (λ _ _. refl) (λ _ _. refl)
    (λ x y xs ys o is. grind (arith, nat_tests)) xs ys (slice_cmp nat_cmp xs ys) refl

reversed-less : (o : Ordering) → is_lt o ≡ false → is_eq o ≡ false
    → is_lt (ordering_reverse o) ≡ true
reversed-less Less less same = absurd (true≢false less)
reversed-less Equal less same = absurd (true≢false same)
reversed-less Greater less same = refl

same-list : (xs ys : List ℕ) (b : Bool) → bytes_eq xs ys ≡ b
    → (b ≡ false) ⊎ (xs ≡ ys)
same-list xs ys true is = inr (search (rules, bytes_eq-Decides))
same-list xs ys false is = inl refl

before-not_same : (xs ys : List ℕ) → is_before ys xs ≡ false → bytes_eq ys xs ≡ false
    → is_before xs ys ≡ true
before-not_same xs ys behind differ =
    ap is_lt (nat_list_cmp_total.antisymm xs ys)
    ∙ reversed-less (slice_cmp nat_cmp ys xs) behind (same-order ys xs ∙ differ)

-- of two keys that differ, the one that does not stand behind the other stands before it
pub before-other : (xs ys : List ℕ) → is_before ys xs ≡ false → ys ≢ xs → is_before xs ys ≡ true
before-other xs ys behind other = by (same-list ys xs (bytes_eq ys xs) refl)
  where
    by : (bytes_eq ys xs ≡ false) ⊎ (ys ≡ xs) → is_before xs ys ≡ true
    by (inl differ) = before-not_same xs ys behind differ
    by (inr same) = absurd (other same)

less-is : (o : Ordering) → is_lt o ≡ true → o ≡ Less
less-is Less is = refl
less-is Equal is = absurd (false≢true is)
less-is Greater is = absurd (false≢true is)

before-both : (xs ys zs : List ℕ) → is_before xs ys ≡ true → is_before ys zs ≡ true
    → is_before xs zs ≡ true
before-both xs ys zs one two =
    ap is_lt (nat_list_cmp_total.trans xs ys zs (less-is _ one) (less-is _ two))

-- what stands before a key stands before all that do not stand before it
pub before-later : (xs ys zs : List ℕ) → is_before xs ys ≡ true → is_before zs ys ≡ false
    → is_before xs zs ≡ true
before-later xs ys zs one behind = by (same-list zs ys (bytes_eq zs ys) refl)
  where
    by : (bytes_eq zs ys ≡ false) ⊎ (zs ≡ ys) → is_before xs zs ≡ true
    by (inl differ) = before-both xs ys zs one (before-not_same ys zs behind differ)
    by (inr same) = subst (λ (l : List ℕ). is_before xs l ≡ true) (sym same) one

less-other : (o : Ordering) → is_lt (ordering_reverse o) ≡ true → is_eq o ≡ false
less-other Less is = absurd (false≢true is)
less-other Equal is = absurd (false≢true is)
less-other Greater is = refl

-- what stands behind a key is not that key
pub behind-other : (xs ys : List ℕ) → is_before xs ys ≡ true → bytes_eq ys xs ≡ false
behind-other xs ys before =
    sym (same-order ys xs)
    ∙ less-other (slice_cmp nat_cmp ys xs)
    (ap is_lt (sym (nat_list_cmp_total.antisymm xs ys)) ∙ before)

tied : (o : Ordering) → (not (is_lt (ordering_reverse o)) && not (is_lt o)) ≡ is_eq o
tied Less = refl
tied Equal = refl
tied Greater = refl

-- keys tie where neither stands before the other, so where they are the same
pub ties-same : (xs ys : List ℕ)
    → (not (is_before xs ys) && not (is_before ys xs)) ≡ bytes_eq ys xs
ties-same xs ys =
    ap (λ o. not (is_lt o) && not (is_before ys xs)) (nat_list_cmp_total.antisymm xs ys)
    ∙ tied (slice_cmp nat_cmp ys xs) ∙ same-order ys xs
