-- The parameters of a link, as they are read from the left, and whether one of them is an id.
use Rattle.std.specs.{List.before_first, Prelude.slice_index_or}
use Rattle.textwrap_styles.specs.Styles.{names_id}
use Rattle.textwrap_text.proofs.Common.{[], ℕ, ◌&&◌, ◌-◌, ◌<◌, ◌==◌, ◌||◌, ◌∷◌, ◌≡◌, arith, Bool, cases_Bool}
use Rattle.textwrap_text.proofs.Common.{codes, cond, drop, false, get_or, length, List, list_any, nat_eq}
use Rattle.textwrap_text.proofs.Common.{nat_tests, onto_first, refl, slice_split, starts_with, take, take_all}
use Rattle.textwrap_text.proofs.Common.{true}

abbrev pub parameters : List ℕ → List (List ℕ)
parameters fields = slice_split (λ c. c == 0x3A) (before_first (λ c. c == 0x3B) fields)

parameters-cons : (c : ℕ) (cs : List ℕ) → parameters (c ∷ cs)
    ≡ cond (c == 0x3B) ([] ∷ []) (cond (c == 0x3A) ([] ∷ parameters cs) (onto_first c (parameters cs)))
parameters-cons c cs = grind (arith, cases_Bool, nat_tests)

-- a text without a colon and a semicolon begins the first parameter, if it begins what is read
abbrev signs : List ℕ → Bool
signs text = list_any (λ c. (c == 0x3A) || (c == 0x3B)) text

first-begins : (text fields : List ℕ) → signs text ≡ false
    → starts_with nat_eq (get_or (parameters fields) 0 []) text ≡ starts_with nat_eq fields text
first-begins [] fields none = refl
first-begins (t ∷ text) [] none = refl
first-begins (t ∷ text) (c ∷ fields) none =
    grind (arith, cases_Bool, nat_tests, parameters-cons c fields, first-begins text fields)

abbrev pub is_id : List ℕ → Bool
is_id parameter = starts_with nat_eq parameter (codes "id=")

-- what is read begins with an id, where a parameter begins, or a later parameter is one
abbrev pub id_left : Bool → List ℕ → Bool
id_left begins left = begins && is_id left || list_any is_id (drop 1 (parameters left))

any-first : (ps : List (List ℕ)) → list_any is_id ps ≡ (is_id (get_or ps 0 []) || list_any is_id (drop 1 ps))
any-first [] = refl
any-first (p ∷ ps) = refl

pub id-begins : (fields : List ℕ) → names_id fields ≡ id_left true fields
id-begins fields = grind (arith, any-first (parameters fields), first-begins (codes "id=") fields)

-- one character further, where no parameter that begins here is an id
pub id-next : (begins : Bool) (left : List ℕ) → 0 < length left
    → (slice_index_or left 0 0 == 0x3B) ≡ false → (begins && is_id left) ≡ false → id_left begins left
    ≡ id_left (slice_index_or left 0 0 == 0x3A) (take (length left - 1) (drop 1 left))
id-next begins [] some on none = absurd (omega arith)
id-next begins (c ∷ left) some on none =
    let rest : take (length (c ∷ left) - 1) left ≡ left = take_all _ left (omega arith) in
    grind (arith, cases_Bool, nat_tests, rest, parameters-cons c left, id-begins left)
