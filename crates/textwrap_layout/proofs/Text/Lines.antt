-- Lemmas on the lines of a text.
use Rattle.textwrap_text.proofs.Common.{paragraphs_of, append_assoc, map-append, join_with, Option}
use Rattle.textwrap_text.proofs.Common.{take_more, get_or, length, arith, List, None, Some, refl, ℕ}
use Rattle.textwrap_text.proofs.Common.{take, zero, ◌++◌, Bor, map, suc, ◌+◌, ◌<◌, ◌∷◌, ◌≡◌, []}
use Rattle.std.specs.declared.borrow.CowStr.{CowStr}
use Rattle.textwrap_layout.proofs.Common.{MatchOption, LineEnding, line_bytes, line_view}
use Rattle.std.specs.Cow.{cow_str_bytes}
use Rattle.std.specs.declared.borrow.CowStr.TheVariants.{Borrowed, Owned}

-- ---- joined lines

pub line_bytes-line_view : {Z : Type 0} (line : CowStr Z)
    → line_bytes (line_view line) ≡ cow_str_bytes line
line_bytes-line_view (Borrowed slice) = refl
line_bytes-line_view (Owned built) = refl

pub join-push : (separator x : List ℕ) (xs : List (List ℕ)) (y : List ℕ)
    → join_with separator ((x ∷ xs) ++ y ∷ []) ≡ (join_with separator (x ∷ xs) ++ separator) ++ y
join-push separator x [] y = refl
join-push separator x (z ∷ xs) y = grind (arith, join-push separator z xs y, append_assoc)

views-take : {Z : Type 0} (lines : List (CowStr Z)) (i : ℕ) (line : CowStr Z) → i < length lines
    → line ≡ get_or lines i line
    → map line_bytes (map line_view (take (i + 1) lines)) ≡ map line_bytes
    (map line_view (take i lines)) ++ cow_str_bytes line ∷ []
views-take lines i line within is =
    rw (take_more lines i line within, ← is) (simp (map-append, line_bytes-line_view line))

-- the lines up to the one at i, joined
pub join-take_first : {Z : Type 0} (separator : List ℕ) (lines : List (CowStr Z)) (i : ℕ)
    (line : CowStr Z) → i < length lines → line ≡ get_or lines i line → i ≡ 0
    → join_with separator (map line_bytes (map line_view (take (i + 1) lines))) ≡ cow_str_bytes line
join-take_first separator lines i line within is first = grind (arith, views-take)

pub join-take_more : {Z : Type 0} (separator : List ℕ) (lines : List (CowStr Z)) (i : ℕ)
    (line : CowStr Z) → i < length lines → line ≡ get_or lines i line → 0 < i
    → join_with separator (map line_bytes (map line_view (take (i + 1) lines))) ≡
    (join_with separator (map line_bytes (map line_view (take i lines))) ++ separator)
    ++ cow_str_bytes line
join-take_more separator [] i line within is more = absurd (omega arith)
join-take_more separator (first ∷ lines) zero line within is more = absurd (omega arith)
join-take_more separator (first ∷ lines) (suc i) line within is more =
    grind (arith, views-take, join-push)

-- ---- one paragraph after the other

-- the paragraphs of what is left of a text, where anything is
abbrev pub paragraphs_left : LineEnding → Option (Bor (List ℕ)) → List (List ℕ)
paragraphs_left ending None = []
paragraphs_left ending (Some rest) = paragraphs_of ending rest.now

abbrev pub bytes_left : Option (Bor (List ℕ)) → ℕ
bytes_left None = 0
bytes_left (Some rest) = length rest.now + 1

pub paragraphs_left-split : (ending : LineEnding) (rest : List ℕ) (after : Option (Bor (List ℕ)))
    (paragraph : List ℕ)
    → MatchOption after (paragraphs_of ending rest ≡ paragraph ∷ [])
    (λ a. paragraphs_of ending rest ≡ paragraph ∷ paragraphs_of ending a.now)
    → paragraphs_of ending rest ≡ paragraph ∷ paragraphs_left ending after
paragraphs_left-split ending rest None paragraph is = is
paragraphs_left-split ending rest (Some after) paragraph is = is
