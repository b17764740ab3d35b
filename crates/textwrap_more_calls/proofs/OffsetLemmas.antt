-- Each offset is passed where a character ends if they are offsets of the text, and only then.
use Rattle.std.proofs.lemmas.Str.{IsCharBoundary-from_drop}
use Rattle.textwrap_calls.proofs.Common.{[], ap, chars, eqb-true, inl, inr, length, List, refl, ◌∷◌}
use Rattle.textwrap_calls.proofs.Common.{arith, cases_Bool, drop, IsUtf8, length-drop, visible, ◌≡◌}
use Rattle.textwrap_calls.proofs.Common.{eqb-false, stripped, subst, sym, units, ℕ, ◌+◌, ◌<◌, ◌↔◌}
use Rattle.textwrap_more_calls.specs.Pieces.{AreOffsets, IsNextOffset, offsets_past}
use Rattle.textwrap_text.proofs.Common.{encode_utf8_all, eqb, IsCharBoundary-start, IsUtf8-drop}
use Rattle.textwrap_text.proofs.{Common.IsCharBoundary, Texts.{ends-within, left-after, some-bytes}}
use Rattle.textwrap_text.proofs.{Common.{encodes-chars, IsUtf8-past_char}, Units.Texts.units-tile}
use Rattle.textwrap_unicode.proofs.CutLemmas.{visible-utf8}
use Rattle.textwrap_words.{proofs.Word.Ahead.character-within, specs.Cuts.AreNext}
use lib.Utf8.{encode}

-- the offsets that are left after these characters, of which the first begins at the place
abbrev pub left_after : ℕ → List ℕ → List ℕ → List ℕ
left_after at [] offsets = offsets
left_after at (c ∷ cs) offsets =
    left_after (at + length (encode c)) cs (offsets_past (at + length (encode c)) offsets)

left_after-none : (cs : List ℕ) (at : ℕ) → left_after at cs [] ≡ []
left_after-none [] at = refl
left_after-none (c ∷ cs) at = left_after-none cs (at + length (encode c))

module _ (text : List ℕ) (utf8 : IsUtf8 text) where
  -- a character that is read ends at a boundary, and the others follow
  record IsRead (at c : ℕ) (cs : List ℕ) : Type 0 where
    some : at < at + length (encode c)
    boundary : IsCharBoundary text (at + length (encode c))
    rest : drop (at + length (encode c)) text ≡ encode_utf8_all cs

  read : (at c : ℕ) (cs : List ℕ) → IsCharBoundary text at
      → drop at text ≡ encode_utf8_all (c ∷ cs) → IsRead at c cs
  read at c cs here is =
      let after = encode_utf8_all cs in
      let rest = left-after text at c after is in
      record {
        some = omega (arith, some-bytes c);
        boundary = IsCharBoundary-from_drop text (at + length (encode c))
            (ends-within text at c after is)
            (subst IsUtf8 (sym rest)
            (IsUtf8-past_char (drop at text) after c (IsUtf8-drop text at utf8 here) is));
        rest = rest;
      }

  left-next : (cs : List ℕ) (at : ℕ) (offsets : List ℕ) → IsCharBoundary text at
      → drop at text ≡ encode_utf8_all cs
      → (left_after at cs offsets ≡ []) ↔ AreNext (IsNextOffset text) offsets at
  left-next cs at [] here is = (λ none. tt, λ are. left_after-none cs at)
  left-next [] at (o ∷ os) here is = (
    λ none. absurd (omega (arith, ap length none)),
    λ are. absurd (omega (arith, are.0.0, are.0.1.0, ap length is, length-drop at text)),
  )
  left-next (c ∷ cs) at (o ∷ os) here is =
      let end = at + length (encode c) in
      let next = read at c cs here is in
      elim (cases_Bool (eqb o end)) [
        | inl same ↦
            let o_is = eqb-true o end same in
            let rest = left-next cs end os next.boundary next.rest in
            rw same (
              λ none. rw o_is ((next.some, next.boundary), rest.0 none),
              λ are. rest.1 (subst (AreNext (IsNextOffset text) os) o_is are.1),
            )
        | inr other ↦
            let rest = left-next cs end (o ∷ os) next.boundary next.rest in
            let reached = character-within text utf8 at c (encode_utf8_all cs) here is o in
            rw other (
              λ none.
                  let are = rest.0 none in ((omega (arith, next.some, are.0.0), are.0.1), are.1),
              λ are.
                  let beyond = reached are.0.0 are.0.1 in
                  rest.1 ((omega (arith, beyond, eqb-false o end other), are.0.1), are.1),
            )
      ]

  module _ (cs : List ℕ) (is : text ≡ encode_utf8_all cs) where
    offsets-passed : (offsets : List ℕ)
        → (left_after 0 cs (offsets_past 0 offsets) ≡ []) ↔ AreOffsets text offsets
    offsets-passed [] = (λ none. tt, λ are. left_after-none cs 0)
    offsets-passed (o ∷ os) =
        let start = IsCharBoundary-start text utf8 in
        elim (cases_Bool (eqb o 0)) [
          | inl same ↦
              let rest = left-next cs 0 os start is in
              rw (same, eqb-true o 0 same) (λ none. (start, rest.0 none), λ are. rest.1 are.1)
          | inr other ↦
              let rest = left-next cs 0 (o ∷ os) start is in
              rw other (
                λ none. let are = rest.0 none in (are.0.1, are.1),
                λ are. rest.1 ((omega (arith, eqb-false o 0 other), are.0), are.1),
              )
        ]

-- ---- the offsets of a line, by its visible characters

stripped-utf8 : (line : List ℕ) → IsUtf8 line → IsUtf8 (stripped line)
stripped-utf8 line utf8 =
    visible-utf8 (units (chars line))
    (subst (λ cs. IsUtf8 (encode_utf8_all cs)) (sym (units-tile (chars line)))
    (subst IsUtf8 (sym (encodes-chars line utf8)) utf8))

pub offsets-read : (line offsets : List ℕ) → IsUtf8 line
    → (left_after 0 (visible (chars line)) (offsets_past 0 offsets) ≡ [])
    ↔ AreOffsets (stripped line) offsets
offsets-read line offsets utf8 =
    offsets-passed (stripped line) (stripped-utf8 line utf8) (visible (chars line)) refl offsets
