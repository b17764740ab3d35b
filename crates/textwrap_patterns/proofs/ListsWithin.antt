-- Lists of numbers within one.
use Rattle.std.proofs.Math.Seq.{drop-append_seam}
use Rattle.std.proofs.lemmas.List.{drop-append-le, take_min, take_rest}
use Rattle.textwrap_patterns.specs.Trie.{numbers_at}
use Rattle.textwrap_text.proofs.Common.{[], ap, append_assoc, arith, drop, get_or, length, List, min, drop-drop}
use Rattle.textwrap_text.proofs.Common.{length-take, refl, take, take_at, ℕ, ◌++◌, ◌+◌, ◌-◌, ◌<◌, ◌∙◌, ◌∷◌, ◌≡◌}
use Rattle.textwrap_text.proofs.Common.{get_or_append_left, length-append, length-drop, suc, take-append-le, ◌≤◌}

-- what does not fit is left out, so it need not be asked for
pub numbers_at-fit : (words : List ℕ) (at n : ℕ) → at < length words
    → n ≡ min (get_or words at 0) (length (take (length words - (at + 1)) (drop (at + 1) words)))
    → take n (take (length words - (at + 1)) (drop (at + 1) words)) ≡ numbers_at words at
numbers_at-fit words at n within is = grind (arith, take_min, take_rest)

numbers_at-front : (front rest : List ℕ)
    → numbers_at (front ++ rest) (length front) ≡ numbers_at rest 0
numbers_at-front [] rest = refl
numbers_at-front (x ∷ front) rest = numbers_at-front front rest

-- a list that is written behind its length stands there, whatever is written behind it
pub numbers_at-written : (front numbers more : List ℕ)
    → numbers_at ((front ++ length numbers ∷ numbers) ++ more) (length front) ≡ numbers
numbers_at-written front numbers more = grind (arith, append_assoc, numbers_at-front, take_at)

-- what stands behind a list that fits
pub rest-fit : (words : List ℕ) (at n : ℕ) → at < length words
    → n ≡ min (get_or words at 0) (length (take (length words - (at + 1)) (drop (at + 1) words)))
    → drop n (take (length words - (at + 1)) (drop (at + 1) words))
    ≡ drop (at + 1 + length (numbers_at words at)) words
rest-fit words at n within is =
    let kept = take (length words - (at + 1)) (drop (at + 1) words) in
    let len : length (numbers_at words at) ≡ n =
    omega (arith, is, ap length (numbers_at-fit words at n within is), length-take n kept) in
    ap (drop n) (take_rest words (at + 1))
    ∙ drop-drop n (at + 1) words
    ∙ ap (λ m. drop m words) (omega (arith, len))

-- and what is written behind such a list stands behind it
pub rest-written : (front numbers more : List ℕ) (at : ℕ)
    → at ≡ length front + 1 + length numbers
    → drop at ((front ++ length numbers ∷ numbers) ++ more) ≡ more
rest-written front numbers more at is =
    let end : at ≡ length (front ++ length numbers ∷ numbers) =
    omega (arith, is, length-append front (length numbers ∷ numbers)) in
    ap (λ n. drop n ((front ++ length numbers ∷ numbers) ++ more)) end
    ∙ drop-append_seam (front ++ length numbers ∷ numbers) more

-- a list that is whole stays there, whatever is written behind it
pub list-stays : (words numbers more : List ℕ) (at : ℕ) → at < length words
    → get_or words at 0 ≡ length numbers → numbers_at words at ≡ numbers
    → numbers_at (words ++ more) at ≡ numbers
list-stays words numbers more at within long is =
    let fits : length numbers + (at + 1) ≤ length words =
    omega (arith, within, ap length is, length-take (get_or words at 0) (drop (suc at) words), length-drop (suc at) words, long) in
    ap (λ n. take n (drop (suc at) (words ++ more))) (get_or_append_left words more 0 at within)
    ∙ ap (take (get_or words at 0)) (drop-append-le (suc at) words more (omega (arith, within)))
    ∙ take-append-le (get_or words at 0) (drop (suc at) words) more
    (omega (arith, within, fits, long, length-drop (suc at) words))
    ∙ is
