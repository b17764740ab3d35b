-- The breaks that are still to come: those the iterator gives, and where a line is cut at them.
use Rattle.std.proofs.lemmas.List.{Elements.All-map, Folds.list_any-append, Folds.list_any_none}
use Rattle.textwrap_text.proofs.ClassNames.{Bool, append_assoc, map, read-next, refl, sym, ◌∙◌, ◌≢◌}
use Rattle.textwrap_text.proofs.ClassNames.{IsUtf8, [], drop, length-append, list_any, true, unit_of}
use Rattle.textwrap_text.proofs.ClassNames.{List, encode, false, not, takes_no_mark, ◌++◌, ◌≡◌, ◌≤◌}
use Rattle.textwrap_text.proofs.ClassNames.{ap, append-nil, arith, inl, inr, nat_tests, ℕ, ◌<◌, ◌==◌}
use Rattle.textwrap_text.proofs.ClassNames.{cases_Bool, chars, length, ne_eqb, subst, ◌&&◌, ◌+◌, ◌∷◌}
use Rattle.textwrap_text.{proofs.Common.if◌then◌else◌, specs.declared.classes.Unit.Unit}
use Rattle.textwrap_text.proofs.Common.{All, All-nil, Visible, cond, flat_map, next_of, rules}
use Rattle.textwrap_text.proofs.Common.{All-append, IsUtf8-append, IsUtf8-nil, encodes-chars, shows}
use Rattle.textwrap_text.proofs.Common.{All-cons, Sequence, TextUnit, cases_eq, chars-nil, stripped}
use Rattle.textwrap_text.proofs.Common.{All-weaker, characters, map-append, visible_in, visible_of}
use Rattle.textwrap_text.proofs.Common.{chars_from_encodes, encode_utf8_all, encodes-append, units}
use Rattle.textwrap_text.proofs.Texts.{some-bytes, utf8-back, utf8-front}
use Rattle.textwrap_text.proofs.Units.Reading.{IsRead, read-ahead, read-none, read-start, units_in}
use Rattle.textwrap_text.proofs.Units.{Reading.read-all, Texts.units-tile}
use Rattle.textwrap_text.specs.declared.escapes.State.{State, TheVariants.Text as InText}
use Rattle.textwrap_unicode.proofs.Common.{Allowed, Numbers, break_at, cut_here, cuts_by, decide_by}
use Rattle.textwrap_unicode.proofs.Common.{Before, Verdict, and, may_end, nothing}
use Rattle.textwrap_unicode.proofs.Common.{Mandatory, Prohibited, before_of, breaks_by, offsets_of}
use Rattle.textwrap_unicode.proofs.Common.{breaks_after, breaks_from, is_any_hyphen, numbers_rule}
use Rattle.textwrap_unicode.specs.Before.{Text, first_class, is_empty, takes_marks, with_unit}
use Rattle.textwrap_unicode.specs.declared.breaks.LineBreak.{LineBreak}
use Rattle.textwrap_words.proofs.Common.{VisibleEnd, cuts_among, ends_from, is_cut_after}
use Rattle.textwrap_words.proofs.Word.Offsets.{end_of, ends-step, ends_in, ends_past}
use Rattle.textwrap_words.proofs.Word.Parts.{places-above, places_by}

-- ---- what the rules ask of the text before a place, when a unit is added to it

takes_marks-is : (units : List Unit)
    → takes_marks units ≡ not (is_empty units) && not (takes_no_mark (first_class units))
takes_marks-is [] = refl
takes_marks-is (unit ∷ units) = refl

and-is : (text : Text) (next : Unit)
    → and (before_of text) next ≡ before_of (with_unit text next)
and-is text next = grind (arith, cases_Bool, takes_marks-is)

-- ---- the breaks that the iterator has still to give

pub breaks_after-from : (numbers : Numbers) (text : Text) (at : ℕ) (cs : List ℕ)
    → breaks_after numbers (before_of text) at cs ≡ breaks_from numbers text at cs
breaks_after-from numbers text at [] = refl
breaks_after-from numbers text at (c ∷ cs) =
    let after = with_unit text (unit_of c) in
    grind (arith, and-is, breaks_after-from numbers after (at + length (encode c)) cs)

-- none is before the place that they are given from
pub breaks-above : (numbers : Numbers) (before : Before) (at : ℕ) (cs : List ℕ)
    → All (λ b. at ≤ b.at) (breaks_after numbers before at cs)
breaks-above numbers before at [] = grind (arith, cases_Bool, All-nil, All-cons)
breaks-above numbers before at (c ∷ cs) =
    let next = at + length (encode c) in
    let rest = breaks_after numbers (and before (unit_of c)) next cs in
    let later : All (λ b. at ≤ b.at) rest =
    All-weaker (λ b. next ≤ b.at) (λ b. at ≤ b.at) (λ b h. omega (arith, h)) rest
    (breaks-above numbers (and before (unit_of c)) next cs) in
    elim (decide_by (numbers_rule numbers cs) before (unit_of c))
    as (λ v. All (λ b. at ≤ b.at) (break_at v at ++ rest)) [
      | Mandatory ↦ All-cons (λ b. at ≤ b.at) _ rest (omega arith) later
      | Allowed ↦ All-cons (λ b. at ≤ b.at) _ rest (omega arith) later
      | Prohibited ↦ later
    ]

pub none-left : (numbers : Numbers) (before : Before) (at : ℕ) → before ≡ before_of nothing
    → breaks_after numbers before at (chars []) ≡ []
none-left numbers before at start = rw (start, chars-nil) refl

-- ---- the code that finds the next one

-- the reader after so many bytes of what was left, with these ahead: the breaks from here on are
-- those that were left
pub record IsReading (numbers : Numbers) (rest : List ℕ) (start : ℕ) (first : Before)
    (offset : ℕ) (ahead : List ℕ) (before : Before) : Type 0 where
  pub read : IsRead rest offset ahead
  pub left : breaks_after numbers before (start + offset) (chars ahead)
      ≡ breaks_after numbers first start (chars rest)

pub reading-start : (numbers : Numbers) (rest : List ℕ) (start : ℕ) (first : Before) (offset : ℕ)
    (ahead : List ℕ) (before : Before) → IsUtf8 rest → offset ≡ 0 → ahead ≡ rest → before ≡ first
    → IsReading numbers rest start first offset ahead before
reading-start numbers rest start first offset ahead before utf8 none whole same =
    grind (arith, read-start)

module _ (numbers : Numbers) (rest : List ℕ) (start : ℕ) (first : Before) (offset : ℕ)
    (ahead : List ℕ) (before : Before)
    (h : IsReading numbers rest start first offset ahead before) where
  module _ (c : ℕ) (after : List ℕ) (e : ahead ≡ encode c ++ after) where
    abbrev next_at : ℕ
    next_at = offset + length (encode c)

    -- what the rules say of the place before the character
    abbrev pub verdict-here : Verdict
    verdict-here = decide_by (numbers_rule numbers (chars (drop next_at rest))) before (unit_of c)

    here : break_at verdict-here (start + offset)
        ++ breaks_after numbers (and before (unit_of c)) (start + next_at) (chars after)
        ≡ breaks_after numbers first start (chars rest)
    here = grind (arith, (read-next h.read c after e _ refl).place, read-ahead, h.left)

    -- no line ends before the character
    pub reading-step : (offset' : ℕ) (before' : Before) → verdict-here ≡ Prohibited
        → offset' ≡ next_at → before' ≡ and before (unit_of c)
        → IsReading numbers rest start first offset' after before'
    reading-step offset' before' prohibited offset_is before_is =
        search (rules, arith, read-next, here)

    -- a line may or must end there
    pub reading-break : (verdict : Verdict) (place : LineBreak) (before' : Before)
        → verdict-here ≡ verdict → break_at verdict (start + offset) ≡ place ∷ []
        → before' ≡ and before (unit_of c)
        → breaks_after numbers first start (chars rest)
        ≡ place ∷ breaks_after numbers before' (start + next_at) (chars (drop next_at rest))
    reading-break verdict place before' said is before_is =
        grind (arith, before_is, (read-next h.read c after e _ refl).place, said, is, here)

  -- nothing is ahead
  pub reading-end : length ahead ≡ 0
      → breaks_after numbers first start (chars rest)
      ≡ (if before.is_start then []
      else record { at = start + length rest; is_mandatory = true } ∷ [])
  reading-end none = search (rules, arith, read-none, read-all)

-- ---- the cuts that are ahead

-- after a last visible character that ends there, and may be a hyphen
abbrev pub cuts_ahead : Numbers → Before → ℕ → Bool → List VisibleEnd → List ℕ
cuts_ahead numbers before end hyphen [] = []
cuts_ahead numbers before end hyphen (e ∷ es) =
    let next = unit_of e.character in
    let back = map (λ later. later.character) es in
    cut_here (not hyphen && may_end (decide_by (numbers_rule numbers back) before next)) end
    ++ cuts_ahead numbers (and before next) e.end (is_any_hyphen e.character) es

-- ---- an offset among those of the breaks

none-equal : (s : ℕ) (os : List ℕ) → All (λ o. o ≢ s) os → list_any (λ o. o == s) os ≡ false
none-equal s os differ = search (rules, arith, list_any_none, All-weaker, ne_eqb)

any-above : (s : ℕ) (os : List ℕ) → All (λ o. s < o) os → list_any (λ o. o == s) os ≡ false
any-above s os above = search (rules, arith, none-equal, All-weaker)

-- a break stands at a place among all if the rules say so there
pub any-here : (v : Verdict) (s : ℕ) (later : List ℕ) → All (λ o. s < o) later
    → list_any (λ o. o == s) (offsets_of (break_at v s) ++ later) ≡ may_end v
any-here Mandatory s later above = grind (arith, nat_tests)
any-here Allowed s later above = grind (arith, nat_tests)
any-here Prohibited s later above = any-above s later above

-- ---- whether a place is among those that a test tells

module _ (test : ℕ → Bool) where
  other-place : (place other : ℕ) (t : Bool) (rest : List ℕ) → place ≢ other
      → list_any (λ p. p == place) (cut_here t other ++ rest) ≡ list_any (λ p. p == place) rest
  other-place place other t rest differs = grind (arith, nat_tests, cases_Bool)

  this-place : (place : ℕ) (t : Bool) (rest : List ℕ) → All (λ p. place < p) rest
      → list_any (λ p. p == place) (cut_here t place ++ rest) ≡ t
  this-place place t rest above = grind (arith, nat_tests, cases_Bool, any-above place rest above)

  pub place-found : (place at : ℕ) (bytes : List ℕ) → at < place → place < at + length bytes
      → list_any (λ p. p == place) (places_by test at bytes) ≡ test place
  place-found place at [] from before = absurd (omega arith)
  place-found place at (b ∷ []) from before = absurd (omega arith)
  place-found place at (b ∷ c ∷ cs) from before =
      let rest = places_by test (at + 1) (c ∷ cs) in
      elim (cases_eq place (at + 1)) [
        | inl here ↦
            rw here (this-place (at + 1) (test (at + 1)) rest (places-above test (at + 1) (c ∷ cs)))
        | inr other ↦
            other-place place (at + 1) (test (at + 1)) rest other
            ∙ place-found place (at + 1) (c ∷ cs) (omega (arith, from, other)) (omega (arith, before))
      ]

-- ---- the cuts at the breaks are those ahead

here-below : (v : Verdict) (s next : ℕ) → s < next → All (λ o. o < next) (offsets_of (break_at v s))
here-below Mandatory s next lt = All-cons (λ o. o < next) s [] lt (All-nil (λ o. o < next))
here-below Allowed s next lt = All-cons (λ o. o < next) s [] lt (All-nil (λ o. o < next))
here-below Prohibited s next lt = All-nil (λ o. o < next)

abbrev pub visible_among : List TextUnit → List ℕ
visible_among us = flat_map visible_of us

-- whether the line is cut after a visible character, as the rules say of the place after it
cut-after : (offsets : List ℕ) (total c s : ℕ) (v : Verdict) (front later : List ℕ)
    → offsets ≡ front ++ (offsets_of (break_at v s) ++ later) → All (λ o. o < s) front
    → All (λ o. s < o) later → s < total
    → is_cut_after offsets total c s ≡ not (is_any_hyphen c) && may_end v
cut-after offsets total c s v front later is below above inside =
    grind (arith, list_any-append, none-equal, All-weaker, any-here, nat_tests)

cuts-first : (offsets : List ℕ) (total : ℕ) (last : VisibleEnd) (es : List VisibleEnd) (b : Bool)
    → is_cut_after offsets total last.character last.shown ≡ b
    → cuts_among offsets total (last ∷ es) ≡ cut_here b last.end ++ cuts_among offsets total es
cuts-first offsets total last es b is = grind (arith, cases_Bool)

-- the characters that end at these places
pub ends-characters : (us : List TextUnit) (at shown : ℕ)
    → map (λ e. e.character) (ends_from at shown us) ≡ visible_among us
ends-characters [] at shown = refl
ends-characters (Sequence cs ∷ us) at shown =
    ends-characters us (at + length (encode_utf8_all cs)) shown
ends-characters (Visible c ∷ us) at shown =
    ap (λ ls. c ∷ ls) (ends-characters us (at + length (encode c)) (shown + length (encode c)))

-- after a visible character
ends-cuts : (numbers : Numbers) (us : List TextUnit) (at : ℕ) (last : VisibleEnd) (before : Before)
    (front offsets : List ℕ) (total : ℕ)
    → offsets ≡ front ++ offsets_of (breaks_after numbers before last.shown (visible_among us))
    → All (λ o. o < last.shown) front
    → total ≡ last.shown + length (encode_utf8_all (visible_among us))
    → cuts_among offsets total (last ∷ ends_from at last.shown us)
    ≡ cuts_ahead numbers before last.end (is_any_hyphen last.character) (ends_from at last.shown us)
ends-cuts numbers [] at last before front offsets total is below end = grind (arith, nat_tests)
ends-cuts numbers (Sequence cs ∷ us) at last before front offsets total is below end =
    ends-cuts numbers us (at + length (encode_utf8_all cs)) last before front offsets total is below end
ends-cuts numbers (Visible c ∷ us) at last before front offsets total is below end =
    let len = length (encode c) in
    let s = last.shown in
    let v = decide_by (numbers_rule numbers (visible_among us)) before (unit_of c) in
    let after = and before (unit_of c) in
    let e = end_of at s c in
    let here = offsets_of (break_at v s) in
    let more = breaks_after numbers after (s + len) (visible_among us) in
    let some = some-bytes c in
    let size = length-append (encode c) (encode_utf8_all (visible_among us)) in
    let parts : offsets ≡ front ++ (here ++ offsets_of more) =
    is ∙ ap (λ l. front ++ l) (map-append (λ b. b.at) (break_at v s) more) in
    let above : All (λ o. s < o) (offsets_of more) =
    All-map (λ o. s < o) (λ b. b.at) more (All-weaker (λ b. s + len ≤ b.at) (λ b. s < b.at)
    (λ b h. omega (arith, h, some)) more
    (breaks-above numbers after (s + len) (visible_among us))) in
    let test = cut-after offsets total last.character s v front (offsets_of more) parts below above
    (omega (arith, end, some, size)) in
    let behind : All (λ o. o < s + len) (front ++ here) =
    All-append (λ o. o < s + len) front here
    (All-weaker (λ o. o < s) (λ o. o < s + len) (λ o h. omega (arith, h)) front below)
    (here-below v s (s + len) (omega (arith, some))) in
    let rest = ends-cuts numbers us (at + len) e after (front ++ here) offsets total
    (parts ∙ sym (append_assoc front here (offsets_of more))) behind (omega (arith, end, size)) in
    let first = cuts-first offsets total last (e ∷ ends_from (at + len) (s + len) us) _ test in
    grind (arith, first, rest, ends-characters us (at + len) (s + len))

-- from the start: there is no place before the first visible character
pub start-cuts : (numbers : Numbers) (us : List TextUnit) (at : ℕ) (offsets : List ℕ) (total : ℕ)
    → offsets ≡ offsets_of (breaks_after numbers (before_of nothing) 0 (visible_among us))
    → total ≡ length (encode_utf8_all (visible_among us))
    → cuts_among offsets total (ends_from at 0 us)
    ≡ cuts_ahead numbers (before_of nothing) 0 false (ends_from at 0 us)
start-cuts numbers [] at offsets total is end = refl
start-cuts numbers (Sequence cs ∷ us) at offsets total is end =
    start-cuts numbers us (at + length (encode_utf8_all cs)) offsets total is end
start-cuts numbers (Visible c ∷ us) at offsets total is end =
    ends-cuts numbers us (at + length (encode c)) (end_of at 0 c) (and (before_of nothing) (unit_of c)) []
    offsets total is (All-nil (λ o. o < 0 + length (encode c)))
    (omega (arith, end, length-append (encode c) (encode_utf8_all (visible_among us))))

-- ---- the line without its escape sequences

pub visible-utf8 : (us : List TextUnit) → IsUtf8 (encode_utf8_all (flat_map characters us))
    → IsUtf8 (encode_utf8_all (visible_among us))
visible-utf8 [] utf8 = IsUtf8-nil
visible-utf8 (Sequence cs ∷ us) utf8 =
    visible-utf8 us (utf8-back cs (flat_map characters us) utf8)
visible-utf8 (Visible c ∷ us) utf8 =
    let one = c ∷ [] in
    let rest = visible-utf8 us (utf8-back one (flat_map characters us) utf8) in
    rw (encodes-append one (visible_among us))
    (IsUtf8-append _ _ (utf8-front one (flat_map characters us) utf8) rest)

-- ---- the code that cuts a line at its breaks

pub record IsCutting (numbers : Numbers) (line : List ℕ) (at : ℕ) (rest : List ℕ) (state : State) (before : Before)
    (end : ℕ) (hyphen : Bool) (cuts : List ℕ) : Type 0 where
  pub read : IsRead line at rest
  -- how many bytes were visible
  pub shown : ℕ
  pub found : cuts ++ cuts_ahead numbers before end hyphen (ends_in state at shown (chars rest))
      ≡ cuts_by numbers line

offsets-visible : (numbers : Numbers) (line : List ℕ) → IsUtf8 line
    → offsets_of (breaks_by numbers (stripped line))
    ≡ offsets_of (breaks_after numbers (before_of nothing) 0 (visible_among (units (chars line))))
offsets-visible numbers line utf8 =
    let us = units (chars line) in
    let whole = encodes-chars line utf8 in
    let shown : IsUtf8 (stripped line) =
    visible-utf8 us (subst (λ cs. IsUtf8 (encode_utf8_all cs)) (sym (units-tile (chars line)))
    (subst IsUtf8 (sym whole) utf8)) in
    let visible : visible_among us ≡ chars (stripped line) =
    chars_from_encodes (visible_among us) (stripped line) shown refl in
    ap offsets_of (sym (breaks_after-from numbers nothing 0 (chars (stripped line))))
    ∙ ap (λ cs. offsets_of (breaks_after numbers (before_of nothing) 0 cs)) (sym visible)

pub IsCutting-start : (numbers : Numbers) (line : List ℕ) (at : ℕ) (rest : List ℕ) (before : Before) (cuts : List ℕ)
    → IsUtf8 line → at ≡ 0 → rest ≡ line → before ≡ before_of nothing → cuts ≡ []
    → IsCutting numbers line at rest InText before 0 false cuts
IsCutting-start numbers line at rest before cuts utf8 start whole first none =
    rw (start, whole, first, none) (record {
      read = read-start line utf8;
      shown = 0;
      found = sym (start-cuts numbers (units (chars line)) 0 (offsets_of (breaks_by numbers (stripped line)))
          (length (stripped line)) (offsets-visible numbers line utf8) refl);
    })

-- a character is read: the line is cut before it if the rules say so and it is visible
pub IsCutting-step : (numbers : Numbers) (line : List ℕ) (at : ℕ) (rest : List ℕ) (s : State) (before : Before)
    (end : ℕ) (hyphen : Bool) (cuts : List ℕ) (c : ℕ) (after : List ℕ) (p : State × Bool)
    → IsCutting numbers line at rest s before end hyphen cuts → rest ≡ encode c ++ after
    → p ≡ (next_of s c, shows s c) → (at' : ℕ) (before' : Before) (end' : ℕ) (hyphen' : Bool)
    (cuts' : List ℕ) → at' ≡ at + length (encode c)
    → before' ≡ cond p.1 (and before (unit_of c)) before
    → end' ≡ cond p.1 (at + length (encode c)) end
    → hyphen' ≡ cond p.1 (is_any_hyphen c) hyphen
    → cuts' ≡ cond p.1 (cuts ++ cut_here (not hyphen
    && may_end (decide_by (numbers_rule numbers (visible_in p.0 (chars after))) before (unit_of c))) end) cuts
    → IsCutting numbers line at' after p.0 before' end' hyphen' cuts'
IsCutting-step numbers line at rest s before end hyphen cuts c after p h e step at' before' end'
    hyphen' cuts' at_is before_is end_is hyphen_is cuts_is =
    let ends : ends_in s at h.shown (chars rest) ≡ ends_past p at h.shown c (chars after) =
    rw (step, read-ahead h.read c after e) (ends-step s at h.shown c (chars after)) in
    let es = ends_in p.0 (at + length (encode c)) (h.shown + length (encode c)) (chars after) in
    let behind : map (λ e. e.character) es ≡ visible_in p.0 (chars after) =
    ends-characters (units_in p.0 (chars after)) _ _ in
    let here : cuts ++ cuts_ahead numbers before end hyphen (ends_past p at h.shown c (chars after))
    ≡ cuts_by numbers line =
    ap (λ es. cuts ++ cuts_ahead numbers before end hyphen es) (sym ends) ∙ h.found in
    rw (at_is, before_is, end_is, hyphen_is, cuts_is) (record {
      read = read-next h.read c after e _ refl;
      shown = cond p.1 (h.shown + length (encode c)) h.shown;
      found = elim (cases_Bool p.1) [
        | inl t ↦ rw (t, append_assoc, ← behind) (rw t at here)
        | inr f ↦ rw f (rw f at here)
      ];
    })

pub IsCutting-end : (numbers : Numbers) (line : List ℕ) (at : ℕ) (rest : List ℕ) (s : State) (before : Before)
    (end : ℕ) (hyphen : Bool) (cuts : List ℕ)
    → IsCutting numbers line at rest s before end hyphen cuts → length rest ≡ 0
    → cuts ≡ cuts_by numbers line
IsCutting-end numbers line at rest s before end hyphen cuts h none =
    sym (append-nil cuts) ∙ (rw (read-none h.read none) at h.found)
