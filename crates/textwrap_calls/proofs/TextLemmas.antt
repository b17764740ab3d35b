-- Lists of texts and of lines, and columns of a table, as C has them.
use Rattle.std.{proofs.lemmas.List.Elements.AllWithin-more, specs.declared.borrow.CowStr.CowStr}
use Rattle.textwrap_calls.proofs.Common.{Bool, [], length-map, line_bytes, line_view, map_push}
use Rattle.textwrap_calls.proofs.Common.{too_small, arith, get_or, length, Line, List, Slice, subst}
use Rattle.textwrap_calls.proofs.Common.{texts_of, done, inl, inr, map, refl, sym, ◌++◌, ◌+◌, ◌<◌}
use Rattle.textwrap_calls.proofs.Common.{◌↔◌, ◌∙◌, ap, ℕ, ◌∷◌, ◌≡◌, ◌≢◌, ◌≤◌, ◌⊎◌}
use Rattle.textwrap_calls.specs.{Display.AreShort, Status.{not_utf8, unknown_options}}
use Rattle.textwrap_display.proofs.Common.{cow_str_bytes, AreShortened, line_bytes-line_view}
use Rattle.textwrap_text.proofs.Common.{get_or_default}

-- ---- the texts of lines: one more of them

-- what holds of the first elements, and of the next one
pub next-holds : {X : Type 0} (P : X → Type 0) (xs : List X) {n : ℕ} (d : X)
    → ((k : ℕ) (e : X) → k < n → P (get_or xs k e)) → n < length xs → P (get_or xs n d)
    → (k : ℕ) (e : X) → k < n + 1 → P (get_or xs k e)
next-holds P xs {n} d so_far within here k e below =
    AllWithin-more P xs 0 n (λ j f low less. so_far j f less)
    (λ f. subst P (get_or_default xs n d f within) here) k e (omega arith) below

pub texts-push : {Z : Type 0} (lines : List (CowStr Z)) (line : CowStr Z) (bytes : List ℕ)
    → bytes ≡ cow_str_bytes line → texts_of lines ++ bytes ∷ [] ≡ texts_of (lines ++ line ∷ [])
texts-push lines line bytes same =
    ap (λ b. texts_of lines ++ b ∷ []) (same ∙ sym (line_bytes-line_view line))
    ∙ sym (ap (map line_bytes) (map_push line_view lines line)
    ∙ map_push line_bytes (map line_view lines) (line_view line))

-- ---- lists of lines that were shortened, as C has them

slices-bytes : (texts : List (List ℕ)) → map line_bytes (map Slice texts) ≡ texts
slices-bytes [] = refl
slices-bytes (text ∷ texts) = ap (λ ts. text ∷ ts) (slices-bytes texts)

pub lines-short : {Z : Type 0} (breaks : Bool) (most width : ℕ) (placeholder : List ℕ)
    (lines : List (CowStr Z)) (texts : List (List ℕ)) (short : List Line) → texts_of lines ≡ texts
    → (most ≡ 0 → short ≡ [])
    → (length lines ≤ most → short ≡ map Slice (texts_of lines))
    → (0 < most → most < length lines
    → AreShortened breaks most width placeholder (texts_of lines) short)
    → AreShort breaks most width placeholder texts (map line_bytes short)
lines-short breaks most width placeholder lines texts short are none whole cut =
    let count : length (texts_of lines) ≡ length lines =
    length-map (map line_view lines) line_bytes ∙ length-map lines line_view in
    subst (λ ts. AreShort breaks most width placeholder ts (map line_bytes short)) are (record {
      none = λ nothing. ap (map line_bytes) (none nothing);
      whole = λ few. ap (map line_bytes) (whole (subst (λ n. n ≤ most) count few))
          ∙ slices-bytes (texts_of lines);
      cut = λ some more. (short, cut some (subst (λ n. most < n) count more), refl);
    })

-- what a shortening says is what was given
pub short-by : {breaks told : Bool} {most width columns : ℕ} {placeholder end : List ℕ}
    {lines rows : List (List ℕ)} → told ≡ breaks → columns ≡ width → end ≡ placeholder
    → AreShort told most columns end lines rows → AreShort breaks most width placeholder lines rows
short-by by room ends are = rw (by, room, ends) at are

-- ---- what a call may return that reads columns of a table

-- what was laid out is written, or has no room
pub written-apart : {status : ℕ} → (status ≡ done) ⊎ (status ≡ too_small)
    → (status ≢ not_utf8) × (status ≢ unknown_options)
written-apart (inl is) = (λ same. omega (arith, is, same), λ same. omega (arith, is, same))
written-apart (inr is) = (λ same. omega (arith, is, same), λ same. omega (arith, is, same))

-- what is right refutes that it is wrong
pub right-apart : {P A B R : Type 0} → (P → ⊥) → R → P ↔ A × B × (R → ⊥)
right-apart not right = (λ is. absurd (not is), λ (_, _, wrong). absurd (wrong right))

pub known-apart : {P R : Type 0} → (P → ⊥) → R → P ↔ (R → ⊥)
known-apart not known = (λ is _. not is, λ unknown. absurd (unknown known))
