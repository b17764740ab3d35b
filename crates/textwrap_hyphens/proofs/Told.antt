-- Of sealed numbers, one of which becomes another, the sum is wrong.
use Rattle.std.proofs.{Common.◌%◌, lemmas.List.get_or-append_right}
use Rattle.textwrap_hyphens.specs.Seal.{from_end, is_sealed, sum_of, summed}
use Rattle.textwrap_text.proofs.Common.{◌*◌, ◌^◌, eqb-true, and_parts, false_from_ne_true, List, []}
use Rattle.textwrap_text.proofs.Common.{ap, arith, get_or, length, length-append, rules, suc, take}
use Rattle.textwrap_text.proofs.Common.{true, ℕ, false, ◌+◌, ◌++◌, ◌-◌, ◌<◌, ◌∙◌, ◌∷◌, ◌≡◌, ◌≢◌}

-- ---- sums

-- one number more makes two sums the same only if they are
step : (a b w : ℕ) → a < 2 ^ 64 → b < 2 ^ 64 → (3 * a + w) % 2 ^ 64 ≡ (3 * b + w) % 2 ^ 64 → a ≡ b
step a b w one two same = omega (arith, one, two, same)

other : (a x y : ℕ) → x < 2 ^ 64 → y < 2 ^ 64 → (3 * a + x) % 2 ^ 64 ≡ (3 * a + y) % 2 ^ 64 → x ≡ y
other a x y one two same = omega (arith, one, two, same)

below : (a w : ℕ) → (3 * a + w) % 2 ^ 64 < 2 ^ 64
below a w = omega arith

same-start : (a b : ℕ) (words : List ℕ) → a < 2 ^ 64 → b < 2 ^ 64
    → summed a words ≡ summed b words → a ≡ b
same-start a b [] one two same = same
same-start a b (w ∷ words) one two same = step a b w one two
    (same-start ((3 * a + w) % 2 ^ 64) ((3 * b + w) % 2 ^ 64) words (below a w) (below b w) same)

same-number : (sum : ℕ) (before after : List ℕ) (old new : ℕ) → old < 2 ^ 64 → new < 2 ^ 64
    → summed sum (before ++ new ∷ after) ≡ summed sum (before ++ old ∷ after) → new ≡ old
same-number sum [] after old new one two same = grind (arith, other, same-start, below)
same-number sum (w ∷ before) after old new one two same =
    same-number ((3 * sum + w) % 2 ^ 64) before after old new one two same

-- ---- what is sealed

take-past : (before rest : List ℕ) (n : ℕ)
    → take (length before + n) (before ++ rest) ≡ before ++ take n rest
take-past [] rest n = search (rules, arith)
take-past (b ∷ before) rest n =
    let more : length (b ∷ before) + n ≡ suc (length before + n) = omega arith in
    ap (λ m. take m (b ∷ (before ++ rest))) more ∙ ap (λ l. b ∷ l) (take-past before rest n)

-- the last number of sealed ones is the sum of the others
sealed-last : (words : List ℕ) → is_sealed words ≡ true
    → from_end 1 words ≡ sum_of (take (length words - 1) words)
sealed-last words is = eqb-true _ _ (and_parts _ _ is).1

-- what stands before the last of some numbers, and that
init : (before rest : List ℕ) (x : ℕ)
    → take (length (before ++ x ∷ rest) - 1) (before ++ x ∷ rest)
    ≡ before ++ take (length rest) (x ∷ rest)
init before rest x =
    grind (arith, length-append before (x ∷ rest), take-past before (x ∷ rest) (length rest))

last : (before rest : List ℕ) (x : ℕ)
    → from_end 1 (before ++ x ∷ rest) ≡ get_or (x ∷ rest) (length rest) 0
last before rest x = grind (arith, length-append, get_or-append_right)

-- so the last number of both is the sum of what stands before it
same-if : (before after : List ℕ) (old new : ℕ) → old < 2 ^ 64 → new < 2 ^ 64
    → is_sealed (before ++ old ∷ after) ≡ true → is_sealed (before ++ new ∷ after) ≡ true
    → new ≡ old
same-if before [] old new one two was is = grind (arith, last, sealed-last, init)
same-if before (a ∷ after) old new one two was is = grind (arith, last, sealed-last, init, same-number)

pub change-told : (before after : List ℕ) (old new : ℕ) → old < 2 ^ 64 → new < 2 ^ 64 → new ≢ old
    → is_sealed (before ++ old ∷ after) ≡ true → is_sealed (before ++ new ∷ after) ≡ false
change-told before after old new one two differ was = grind (arith, false_from_ne_true, same-if)
