-- Hyphens between letters, and parts between hyphens.
use Rattle.std.proofs.lemmas.List.Splits.{length-slice_split, slice_split-cons_no, slice_split-cons_yes}
use Rattle.textwrap_dictionaries.proofs.Said.{hyphen-here, letter-here}
use Rattle.textwrap_dictionaries.specs.Entries.{hyphens_past, is_hyphen_sign, letters_between}
use Rattle.textwrap_dictionaries.specs.{Faults.has_gap, Parsing.is_empty}
use Rattle.textwrap_patterns.specs.Places.{are_places}
use Rattle.textwrap_text.proofs.Common.{nat_lt, not, ◌&&◌, list_any, onto_first, slice_split, le-ltb, lt-ltb}
use Rattle.textwrap_text.proofs.Common.{ltb-false, Bool, List, ℕ, [], ap, arith, cases_Bool, drop, false, inl}
use Rattle.textwrap_text.proofs.Common.{inr, length, refl, suc, sym, true, ◌+◌, ◌<◌, ◌∙◌, ◌∷◌, ◌≡◌, ◌⊎◌}

and-false : (b : Bool) → (b && false) ≡ false
and-false false = refl
and-false true = refl

abbrev parts_of : List ℕ → List (List ℕ)
parts_of cs = slice_split is_hyphen_sign cs

drop-onto : (c : ℕ) (parts : List (List ℕ)) → 0 < length parts → drop 1 (onto_first c parts) ≡ drop 1 parts
drop-onto c [] some = absurd (omega (arith, some))
drop-onto c (part ∷ parts) some = refl

any-onto : (c : ℕ) (parts : List (List ℕ)) → 0 < length parts
    → list_any is_empty (onto_first c parts) ≡ list_any is_empty (drop 1 parts)
any-onto c [] some = absurd (omega (arith, some))
any-onto c (part ∷ parts) some = refl

parts-some : (cs : List ℕ) → 0 < length (parts_of cs)
parts-some cs = omega (arith, length-slice_split is_hyphen_sign cs)

-- places inside a word are those of hyphens between parts that are not empty: where a letter stood since the
-- last hyphen, and directly behind it
gaps : (cs : List ℕ)
    → ((len last n : ℕ) → last < n → len ≡ n + length (letters_between cs)
    → are_places len last (hyphens_past n cs) ≡ not (list_any is_empty (drop 1 (parts_of cs))))
    × ((len n : ℕ) → len ≡ n + length (letters_between cs)
    → (nat_lt n len && are_places len n (hyphens_past n cs)) ≡ not (list_any is_empty (parts_of cs)))
gaps [] = (λ len last n lt is. refl, λ len n is. rw (le-ltb n len (omega (arith, is))) refl)
gaps (c ∷ cs) = elim (cases_Bool (is_hyphen_sign c)) [
  | inl hyphen ↦
      let split = slice_split-cons_yes is_hyphen_sign c cs hyphen in (
        λ len last n lt is.
            ap (are_places len last) (hyphen-here n c cs hyphen).0
            ∙ ap (λ b. (b && nat_lt n len) && are_places len n (hyphens_past n cs)) (lt-ltb last n lt)
            ∙ (gaps cs).1 len n (is ∙ ap (λ l. n + length l) (hyphen-here n c cs hyphen).1)
            ∙ ap (λ parts. not (list_any is_empty (drop 1 parts))) (sym split),
        λ len n is.
            ap (λ places. nat_lt n len && are_places len n places) (hyphen-here n c cs hyphen).0
            ∙ ap (λ b. nat_lt n len && ((b && nat_lt n len) && are_places len n (hyphens_past n cs)))
            (le-ltb n n (omega arith))
            ∙ and-false (nat_lt n len) ∙ ap (λ parts. not (list_any is_empty parts)) (sym split),
      )
  | inr letter ↦
      let split = slice_split-cons_no is_hyphen_sign c cs letter in (
        λ len last n lt is.
            ap (are_places len last) (letter-here n c cs letter).0
            ∙ (gaps cs).0 len last (suc n) (omega (arith, lt))
            (omega (arith, is, ap length (letter-here n c cs letter).1))
            ∙ ap (λ parts. not (list_any is_empty parts)) (sym (drop-onto c (parts_of cs) (parts-some cs)))
            ∙ ap (λ parts. not (list_any is_empty (drop 1 parts))) (sym split),
        λ len n is.
            ap (λ places. nat_lt n len && are_places len n places) (letter-here n c cs letter).0
            ∙ ap (λ b. b && are_places len n (hyphens_past (suc n) cs))
            (lt-ltb n len (omega (arith, is, ap length (letter-here n c cs letter).1)))
            ∙ (gaps cs).0 len n (suc n) (omega arith) (omega (arith, is, ap length (letter-here n c cs letter).1))
            ∙ ap not (sym (any-onto c (parts_of cs) (parts-some cs)))
            ∙ ap (λ parts. not (list_any is_empty parts)) (sym split),
      )
]

places-or : (n : ℕ) (cs : List ℕ) → 0 < length cs
    → (0 < length (hyphens_past n cs)) ⊎ (0 < length (letters_between cs))
places-or n [] some = absurd (omega (arith, some))
places-or n (c ∷ cs) some = grind (arith, hyphen-here, letter-here)

first-place : (len : ℕ) (places : List ℕ) → (0 < length places) ⊎ (0 < len)
    → are_places len 0 places ≡ (nat_lt 0 len && are_places len 0 places)
first-place len [] (inl some) = absurd (omega (arith, some))
first-place len [] (inr some) = rw (lt-ltb 0 len some) refl
first-place len (place ∷ places) some = grind (arith, below, and-false)
  where
    below : (p l : ℕ) → nat_lt 0 l ≡ false → nat_lt p l ≡ false
    below p l is = le-ltb p l (omega (arith, ltb-false 0 l is))

-- an exception has each hyphen between two letters, if no part between hyphens is empty
pub exception-gap : (cs : List ℕ)
    → are_places (length (letters_between cs)) 0 (hyphens_past 0 cs) ≡ not (has_gap cs)
exception-gap [] = refl
exception-gap (c ∷ cs) = let word = c ∷ cs in
    first-place (length (letters_between word)) (hyphens_past 0 word) (places-or 0 word (omega arith))
    ∙ (gaps word).1 (length (letters_between word)) 0 (omega arith)
