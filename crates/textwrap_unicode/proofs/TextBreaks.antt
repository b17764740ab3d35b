-- The breaks of a text that the definition computes are those that the rules name: one list in
-- order, and what is said of one place.
use Rattle.std.proofs.lemmas.List.Elements.{All-get_or, Contains-append_left, Contains-append_right}
use Rattle.std.proofs.lemmas.List.{Elements.Contains-append_cases, append-nil, append_cancel_left}
use Rattle.std.proofs.lemmas.{List.Sums.fold-append, Str.encodes_same, Str.length-le-encodes}
use Rattle.std.specs.List.{All, Contains, fold}
use Rattle.std.{proofs.Math.Seq.take-append_seam, specs.Str.IsCharBoundary}
use Rattle.textwrap_text.proofs.ClassNames.{Bool, List, false, inl, refl, subst, take, true, ◌++◌}
use Rattle.textwrap_text.proofs.ClassNames.{IsUtf8, arith, chars, encode, get_or, length, unit_of, ℕ}
use Rattle.textwrap_text.proofs.ClassNames.{[], ap, inr, sym, ◌+◌, ◌<◌, ◌∙◌, ◌∷◌, ◌≡◌, ◌≢◌, ◌≤◌}
use Rattle.textwrap_text.proofs.ClassNames.{append_assoc, cases_Bool, if◌then◌else◌, length-append}
use Rattle.textwrap_text.specs.declared.classes.Unit.{Unit}
use Rattle.textwrap_text.proofs.Common.{IsCharBoundary-from_take, encodes-append, encodes-chars}
use Rattle.textwrap_text.proofs.Common.{chars-nil, map-append, rules}
use Rattle.textwrap_text.proofs.Lists.Elements.{IsInOrder, order-cons, order-nil, same-members}
use Rattle.textwrap_text.proofs.Lists.Elements.{contains-cases, contains-here, contains-nil}
use Rattle.textwrap_text.proofs.Texts.{some-bytes, utf8-front}
use Rattle.textwrap_unicode.proofs.Common.{Allowed, Numbers, Verdict, nothing}
use Rattle.textwrap_unicode.proofs.Common.{Mandatory, before_of, break_at, breaks_by, decide_by}
use Rattle.textwrap_unicode.proofs.Common.{Prohibited, breaks_from, numbers_rule, verdict_by, ◌↔◌}
use Rattle.textwrap_unicode.proofs.CutLemmas.{breaks-above, breaks_after-from}
use Rattle.textwrap_unicode.specs.Before.{Text, is_empty, text_of, with_unit}
use Rattle.textwrap_unicode.specs.Breaks.{AreBreaksBy, EndsBy, IsBreakBy, IsEnd, IsPlaceBy}
use Rattle.textwrap_unicode.specs.declared.breaks.LineBreak.{LineBreak}
use lib.Utf8.{encodes}

-- ---- a place among the characters that are still to be read

pub text_of-push : (front : List ℕ) (c : ℕ)
    → text_of (front ++ c ∷ []) ≡ with_unit (text_of front) (unit_of c)
text_of-push front c = grind (arith, map-append, fold-append)

-- after a character there is a unit
pub not-empty : (text : Text) (unit : Unit) → is_empty (with_unit text unit).units ≡ false
not-empty text unit = grind (arith, cases_Bool)

stays : (text : Text) (units : List Unit) → is_empty text.units ≡ false
    → is_empty (fold with_unit text units).units ≡ false
stays text [] some = some
stays text (u ∷ units) some = stays (with_unit text u) units (not-empty text u)

pub some-units : (c : ℕ) (cs : List ℕ) → is_empty (text_of (c ∷ cs)).units ≡ false
some-units c cs = search (rules, arith, stays, not-empty)

-- ---- the breaks that the definition computes are those that the rules name

module _ (numbers : Numbers) where
  -- the breaks after a character
  breaks-after : (front : List ℕ) (c : ℕ) (cs : List ℕ)
      → breaks_from numbers (text_of (front ++ c ∷ [])) (length (encodes (front ++ c ∷ []))) cs
      ≡ breaks_from numbers (with_unit (text_of front) (unit_of c))
      (length (encodes front) + length (encode c)) cs
  breaks-after front c cs =
      grind (arith, text_of-push, encodes-append, length-append, append-nil)

  -- a break after the next character is among those from here
  contains-after : (front : List ℕ) (c : ℕ) (cs : List ℕ) (place : LineBreak)
      → Contains (breaks_from numbers (text_of (front ++ c ∷ []))
      (length (encodes (front ++ c ∷ []))) cs) place
      → Contains (breaks_from numbers (text_of front) (length (encodes front)) (c ∷ cs)) place
  contains-after front c cs place h = grind (arith, Contains-append_right, breaks-after)

  contains-before : (verdict : Verdict) (front : List ℕ) (c : ℕ) (cs : List ℕ) (place : LineBreak)
      → verdict_by numbers front c cs ≡ verdict
      → break_at verdict (length (encodes front)) ≡ place ∷ []
      → Contains (breaks_from numbers (text_of front) (length (encodes front)) (c ∷ cs)) place
  contains-before verdict front c cs place said is = grind (arith, Contains-append_left)

  contains-later : (front middle back : List ℕ) (next : ℕ) (verdict : Verdict) (place : LineBreak)
      → verdict_by numbers (front ++ middle) next back ≡ verdict
      → break_at verdict (length (encodes (front ++ middle))) ≡ place ∷ []
      → Contains (breaks_from numbers (text_of front) (length (encodes front))
      (middle ++ next ∷ back)) place
  contains-later front [] back next verdict place said is =
      grind (arith, append-nil, contains-before verdict front next back place)
  contains-later front (m ∷ ms) back next verdict place said is =
      contains-after front m (ms ++ next ∷ back) place (grind (
        arith,
        append_assoc,
        contains-later (front ++ m ∷ []) ms back next verdict place,
      ))

only : (x y : LineBreak) → Contains (x ∷ []) y → x ≡ y
only x y h = grind (arith, contains-cases, contains-nil)

module _ (numbers : Numbers) (text : List ℕ) (utf8 : IsUtf8 text) where
  pub place-here : (front : List ℕ) (c : ℕ) (cs : List ℕ) (verdict : Verdict)
      → chars text ≡ front ++ c ∷ cs → verdict_by numbers front c cs ≡ verdict
      → IsPlaceBy numbers text (length (encodes front)) verdict
  place-here front c cs verdict divided said = search (rules, arith)

  ends-here : (front : List ℕ) (c : ℕ) (cs : List ℕ) (verdict : Verdict) (place : LineBreak)
      → chars text ≡ front ++ c ∷ cs → verdict_by numbers front c cs ≡ verdict
      → Contains (break_at verdict (length (encodes front))) place → IsBreakBy numbers text place
  ends-here front c cs Mandatory place divided said h = grind (arith, only, place-here)
  ends-here front c cs Allowed place divided said h = grind (arith, only, place-here)
  ends-here front c cs Prohibited place divided said h = absurd (contains-nil place h)

  -- each computed break is one that the rules say
  computed-said : (front cs : List ℕ) (place : LineBreak) → chars text ≡ front ++ cs
      → Contains (breaks_from numbers (text_of front) (length (encodes front)) cs) place
      → IsBreakBy numbers text place
  computed-said [] [] place whole h = absurd (contains-nil place h)
  computed-said (f ∷ fs) [] place whole h =
      let all : f ∷ fs ≡ chars text = sym (whole ∙ append-nil (f ∷ fs)) in
      subst (IsBreakBy numbers text) (only _ place (rw (some-units f fs) at h)) (inr (
        λ none. let e : f ∷ fs ≡ [] = all ∙ ap chars none ∙ chars-nil in cc,
        ap (λ cs. length (encodes cs)) all ∙ ap length (encodes-chars text utf8),
      ))
  computed-said front (c ∷ cs) place whole h =
      elim (Contains-append_cases _ _ place h) [
        | inl first ↦ ends-here front c cs (verdict_by numbers front c cs) place whole refl first
        | inr rest ↦ computed-said (front ++ c ∷ []) cs place (rw append_assoc whole)
            (rw (breaks-after numbers front c cs) rest)
      ]

  -- and each that they say is computed
  said-place : (verdict : Verdict) (place : LineBreak) → break_at verdict place.at ≡ place ∷ []
      → IsPlaceBy numbers text place.at verdict → Contains (breaks_by numbers text) place
  said-place verdict place is h =
      subst (λ cs. Contains (breaks_from numbers nothing 0 cs) place) (sym h.divided)
      (contains-later numbers [] h.front h.back h.next verdict place h.said
      (ap (break_at verdict) (sym h.offset) ∙ is))

  said-end : (front cs : List ℕ) → chars text ≡ front ++ cs → text ≢ []
      → Contains (breaks_from numbers (text_of front) (length (encodes front)) cs)
      (record { at = length text; is_mandatory = true })
  said-end [] [] whole some = absurd (some (sym (encodes-chars text utf8) ∙ ap encodes whole))
  said-end (f ∷ fs) [] whole some =
      let end : length text ≡ length (encodes (f ∷ fs)) = ap length (sym (encodes-chars text utf8)
      ∙ ap encodes (whole ∙ append-nil (f ∷ fs))) in
      rw (some-units f fs, end) (contains-here _ _ [] refl)
  said-end front (c ∷ cs) whole some = contains-after numbers front c cs _
      (said-end (front ++ c ∷ []) cs (whole ∙ sym (append_assoc front (c ∷ []) cs)) some)

  said-computed : (at : ℕ) (is_mandatory : Bool) → EndsBy numbers text at is_mandatory
      → Contains (breaks_by numbers text) (record { at = at; is_mandatory = is_mandatory })
  said-computed at false h = said-place Allowed _ refl h
  said-computed at true (inl h) = said-place Mandatory _ refl h
  said-computed at true (inr h) = rw h.1 (said-end [] (chars text) refl h.0)

  -- the computed list has the breaks of the text, and no others
  pub contains-break : (place : LineBreak) → Contains (breaks_by numbers text) place ↔ IsBreakBy numbers text place
  contains-break place =
      (computed-said [] (chars text) place refl, said-computed place.at place.is_mandatory)

-- ---- where they are

-- the rules let no line end at the start of a text
some-front : (numbers : Numbers) (front : List ℕ) (next : ℕ) (back : List ℕ)
    → verdict_by numbers front next back ≢ Prohibited → 0 < length (encodes front)
some-front numbers [] next back said = absurd (said refl)
some-front numbers (f ∷ fs) next back said = omega (arith, length-le-encodes (f ∷ fs))

some-start : (text : List ℕ) (at : ℕ) → text ≢ [] → at ≡ length text → 0 < at
some-start [] at some e = absurd (some refl)
some-start (b ∷ bs) at some e = omega (arith, e)

module _ (text : List ℕ) (utf8 : IsUtf8 text) (front back : List ℕ) (next : ℕ)
    (divided : chars text ≡ front ++ next ∷ back) where
  pub spelled : text ≡ encodes front ++ encodes (next ∷ back)
  spelled = sym (encodes-chars text utf8) ∙ ap encodes divided ∙ encodes-append front (next ∷ back)

  pub before-place : take (length (encodes front)) text ≡ encodes front
  before-place = grind (arith, spelled, take-append_seam)

module _ (numbers : Numbers) (text : List ℕ) (utf8 : IsUtf8 text) where
  place-within : (at : ℕ) (verdict : Verdict) → verdict ≢ Prohibited → IsPlaceBy numbers text at verdict
      → IsCharBoundary text at × (0 < at) × (at ≤ length text)
  place-within at verdict some h =
      let parts = spelled text utf8 h.front h.back h.next h.divided in
      let taken = before-place text utf8 h.front h.back h.next h.divided in
      let own = utf8-front h.front (h.next ∷ h.back)
      (subst IsUtf8 (sym (encodes-chars text utf8) ∙ ap encodes h.divided) utf8) in
      let size = length-append (encodes h.front) (encodes (h.next ∷ h.back)) in
      let within : at ≤ length text = omega (arith, h.offset, ap length parts) in (
        IsCharBoundary-from_take text at utf8 within
            (subst IsUtf8 (sym (ap (λ n. take n text) h.offset ∙ taken)) own),
        omega (arith, h.offset, some-front numbers h.front h.next h.back (λ none. some (sym h.said ∙ none))),
        within,
      )

  break-within : (at : ℕ) (is_mandatory : Bool) → EndsBy numbers text at is_mandatory
      → IsCharBoundary text at × (0 < at) × (at ≤ length text)
  break-within at false h = place-within at Allowed (λ e. cc) h
  break-within at true (inl h) = place-within at Mandatory (λ e. cc) h
  break-within at true (inr h) = grind (arith, some-start text at h.0 h.1)

  pub contains-within : (place : LineBreak) → Contains (breaks_by numbers text) place
      → IsCharBoundary text place.at × (0 < place.at) × (place.at ≤ length text)
  contains-within place inside =
      break-within place.at place.is_mandatory ((contains-break numbers text utf8 place).0 inside)

  pub contains-end : text ≢ []
      → Contains (breaks_by numbers text) (record { at = length text; is_mandatory = true })
  contains-end some = (contains-break numbers text utf8 _).1 (inr (some, refl))

-- ---- their order

abbrev offset_of : LineBreak → ℕ
offset_of place = place.at

-- no break is before the place that they are computed from
from-there : (numbers : Numbers) (text : Text) (at : ℕ) (cs : List ℕ) (i : ℕ) (none : LineBreak)
    → i < length (breaks_from numbers text at cs) → at ≤ (get_or (breaks_from numbers text at cs) i none).at
from-there numbers text at cs i none within = All-get_or (λ b. at ≤ b.at) _ i none within
    (subst (All (λ b. at ≤ b.at)) (breaks_after-from numbers text at cs)
    (breaks-above numbers (before_of text) at cs))

order-end : (at : ℕ) (is_start : Bool) → IsInOrder offset_of
    (if is_start then [] else record { at = at; is_mandatory = true } ∷ [])
order-end at true = order-nil offset_of
order-end at false = grind (arith, order-cons)

order-place : (at : ℕ) (verdict : Verdict) (rest : List LineBreak)
    → ((i : ℕ) (none : LineBreak) → i < length rest → at < (get_or rest i none).at)
    → IsInOrder offset_of rest
    → IsInOrder offset_of (break_at verdict at ++ rest)
order-place at Mandatory rest beyond order = order-cons offset_of _ rest beyond order
order-place at Allowed rest beyond order = order-cons offset_of _ rest beyond order
order-place at Prohibited rest beyond order = order

pub breaks-in-order : (numbers : Numbers) (text : Text) (at : ℕ) (cs : List ℕ)
    → IsInOrder offset_of (breaks_from numbers text at cs)
breaks-in-order numbers text at [] = order-end at (is_empty text.units)
breaks-in-order numbers text at (c ∷ cs) =
    let after = with_unit text (unit_of c) in
    let next = at + length (encode c) in
    order-place at (decide_by (numbers_rule numbers cs) (before_of text) (unit_of c)) _
    (λ i none within. let more = from-there numbers after next cs i none within in
    omega (arith, some-bytes c)) (breaks-in-order numbers after next cs)

-- the breaks of a text are the computed ones, and no others
pub breaks-unique : (numbers : Numbers) (text : List ℕ) (breaks : List LineBreak) → IsUtf8 text
    → AreBreaksBy numbers text breaks ↔ (breaks ≡ breaks_by numbers text)
breaks-unique numbers text breaks utf8 = (
  λ h. same-members offset_of breaks (breaks_by numbers text) h.in_order computed.in_order
      (λ place inside. (computed.all place).1 ((h.all place).0 inside))
      (λ place inside. (h.all place).1 ((computed.all place).0 inside)),
  λ e. subst (AreBreaksBy numbers text) (sym e) computed,
)
  where
    computed : AreBreaksBy numbers text (breaks_by numbers text)
    computed = record {
      in_order = breaks-in-order numbers nothing 0 (chars text);
      all = contains-break numbers text utf8;
    }

-- ---- what is said of one place of a text

module _ (numbers : Numbers) (text front back : List ℕ) (next : ℕ) (utf8 : IsUtf8 text)
    (divided : chars text ≡ front ++ next ∷ back) where
  here-said : (verdict : Verdict) → IsPlaceBy numbers text (length (encodes front)) verdict
      → verdict_by numbers front next back ≡ verdict
  here-said verdict h =
      let same : h.front ≡ front = encodes_same h.front front
      (sym (before-place text utf8 h.front h.back h.next h.divided)
      ∙ rw (← h.offset) (before-place text utf8 front back next divided)) in
      let rest : h.next ∷ h.back ≡ next ∷ back = append_cancel_left front _ _
      (rw same at (sym h.divided ∙ divided)) in
      grind (arith, same, rest, h.said)

  here-inside : IsEnd text (length (encodes front)) → ⊥
  here-inside h =
      let parts = ap length (spelled text utf8 front back next divided) in
      let size = length-le-encodes (next ∷ back) in
      omega (arith, h.1, parts, length-append (encodes front) (encodes (next ∷ back)), size)

  pub here-decides : (is_mandatory : Bool)
      → Contains (breaks_by numbers text)
      (record { at = length (encodes front); is_mandatory = is_mandatory })
      ↔ (verdict_by numbers front next back ≡ (if is_mandatory then Mandatory else Allowed))
  here-decides false =
      let both = contains-break numbers text utf8 _ in (
        λ inside. here-said Allowed (both.0 inside),
        λ said. both.1 (place-here numbers text utf8 front next back Allowed divided said),
      )
  here-decides true =
      let both = contains-break numbers text utf8 _ in (
        λ inside. elim (both.0 inside) [
          | inl h ↦ here-said Mandatory h
          | inr h ↦ absurd (here-inside h)
        ],
        λ said. both.1 (inl (place-here numbers text utf8 front next back Mandatory divided said)),
      )
