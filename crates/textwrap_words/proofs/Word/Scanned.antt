-- The reader of the first piece from a place on: what it has seen, and where it stops.
use Rattle.textwrap_text.{proofs.Common.cases_Bool, specs.declared.escapes.State.TheVariants.Text}
use Rattle.textwrap_text.proofs.{Common.text_width, Units.Reading.added, Units.Reading.added-le}
use Rattle.textwrap_text.proofs.Common.{append_assoc, chars-append, IsCharBoundary, IsUtf8-between}
use Rattle.textwrap_text.proofs.Common.{cases_lt, columns, drop_more, eqb-true, is_blank, Visible}
use Rattle.textwrap_text.proofs.Common.{[], arith, get_or, IsUtf8, length, ne_eqb, next_of, take_at}
use Rattle.textwrap_text.proofs.Common.{Bool, drop, false, List, refl, rules, shows, subst, units}
use Rattle.textwrap_text.proofs.Common.{inl, inr, suc, sym, true, zero, ℕ, ◌++◌, ◌+◌, ◌-◌, ◌<◌, ◌∙◌}
use Rattle.textwrap_text.proofs.Common.{ap, chars-nil, IsUtf8-drop, slice_range, ◌∷◌, ◌≡◌, ◌≢◌, ◌≤◌}
use Rattle.textwrap_text.proofs.Units.Reading.{chars-push, columns-printable, printable-no_escape}
use Rattle.textwrap_text.proofs.Units.Reading.{IsRead, read-ahead, read-next, read-none, read-start}
use Rattle.std.specs.Prelude.{chars, encode_utf8}
use Rattle.textwrap_words.proofs.{Common.State, Word.Parts.end-from, Word.Parts.HasEnd}
use Rattle.textwrap_words.proofs.{Common.is_due, Word.Breaking.due-false, Word.Words.text_width-nil}
use Rattle.textwrap_words.proofs.Common.{IsCharBoundary-before_ascii, IsCharBoundary-from_drop}
use Rattle.textwrap_words.proofs.Common.{broken_texts, encode_ascii, slices_joined, starts-within}
use Rattle.textwrap_words.proofs.Common.{IsFirstStop, length-slice, slice_after, slice_before}
use Rattle.textwrap_words.proofs.Common.{is_point, is_stop, IsLetter, or_cases, slice-nil, Splitter}
use Rattle.textwrap_words.proofs.Word.Ahead.{character-within, IsInFirst-start, IsInFirst-step}
use Rattle.textwrap_words.proofs.Word.Ahead.{EndsHere, first-bytes, IsInFirst, IsInFirst-cut}
use Rattle.textwrap_words.proofs.Word.BrokenPieces.{IsFirstPiece, IsFirstPiece-found}
use Rattle.textwrap_words.proofs.Word.Splitting.{after-hyphen_byte, HoldsBetween, point-hyphen}

-- ---- the reader of the first piece

pub record IsReading (limit : ℕ) (text : List ℕ) (at : ℕ) (rest : List ℕ) (state : State)
    (width : ℕ) : Type 0 where
  pub read : IsRead text at rest
  pub bound : width ≤ at
  pub inside : IsInFirst limit (chars text) state width (chars rest)

pub IsReading-start : (limit : ℕ) (text : List ℕ) → IsUtf8 text → IsReading limit text 0 text Text 0
IsReading-start limit text utf8 = grind (arith, read-start, IsInFirst-start)

module _ {limit : ℕ} {text : List ℕ} {at : ℕ} {rest : List ℕ} {s : State} {width : ℕ}
    (h : IsReading limit text at rest s width) where
  pub IsReading-step : (c : ℕ) (after : List ℕ) → rest ≡ encode_utf8 c ++ after
      → (shows s c ≡ true → is_due limit width (Visible c) ≡ false) → (end : ℕ)
      → end ≡ at + length (encode_utf8 c)
      → IsReading limit text end after (next_of s c) (width + added s c)
  IsReading-step c after e room end past = record {
    read = read-next h.read c after e end past;
    bound = omega (arith, h.bound, added-le s c, past);
    inside = grind (arith, IsInFirst-step, read-ahead);
  }

  -- it is found where what follows begins the next piece
  found : IsUtf8 text → text ≢ [] → EndsHere limit (chars text) width (units (chars rest))
      → IsFirstPiece limit text at width
  found utf8 some ends = IsFirstPiece-found limit text at width utf8 some h.read.boundary.0
      (rw h.read.place h.read.utf8) (rw h.read.place ends)

  pub IsReading-cut : (c : ℕ) (after : List ℕ) → IsUtf8 text → text ≢ []
      → rest ≡ encode_utf8 c ++ after → shows s c ≡ true → is_due limit width (Visible c) ≡ true
      → IsFirstPiece limit text at width
  IsReading-cut c after utf8 some e shown due =
      let here = read-ahead h.read c after e in search (rules, arith, found, IsInFirst-cut)

  pub IsReading-end : IsUtf8 text → text ≢ [] → length rest ≡ 0 → IsFirstPiece limit text at width
  IsReading-end utf8 some none = grind (arith, found, read-none)

-- ---- the reader of the first piece from a place on: what it has seen of it, whatever
-- characters follow

pub record IsScanned (test : ℕ → Bool) (limit : ℕ) (text : List ℕ) (at place : ℕ)
    (state : State) (width : ℕ) : Type 0 where
  pub from : at ≤ place
  pub boundary : IsCharBoundary text place
  pub uncut : (k : ℕ) → at < k → k < place → test k ≡ false
  pub bound : width ≤ place - at
  pub reads : (more : List ℕ)
      → IsInFirst limit (chars (slice_range text at place) ++ more) state width more

-- the text is not cut at the place, unless the piece begins there
abbrev pub GoesOn : (ℕ → Bool) → List ℕ → ℕ → ℕ → Type 0
GoesOn test text at place = at < place → place < length text → test place ≡ false

module _ {test : ℕ → Bool} {limit : ℕ} {text : List ℕ} (utf8 : IsUtf8 text) {at : ℕ}
    (start : IsCharBoundary text at) where
  pub scanned-start : IsScanned test limit text at at Text 0
  scanned-start = grind (arith, slice-nil, chars-nil, IsInFirst-start)

  -- the reader goes over a character
  pub scanned-step : {place : ℕ} (c : ℕ) (after : List ℕ) {state : State} {width : ℕ}
      → HoldsBetween test text → IsScanned test limit text at place state width
      → GoesOn test text at place → drop place text ≡ encode_utf8 c ++ after
      → (shows state c ≡ true → is_due limit width (Visible c) ≡ false)
      → IsScanned test limit text at (place + length (encode_utf8 c)) (next_of state c)
      (width + added state c)
  scanned-step {place} c after {state} {width} stands h on is room =
      let end = place + length (encode_utf8 c) in
      let from = h.from in
      let cut = (read-next (grind (arith, IsUtf8-drop)) c after is end refl).boundary in
      let front = slice_range text at place in
      let part : slice_range text place end ≡ encode_utf8 c = grind (arith, take_at) in
      let joined = slices_joined text at place end from (omega arith) ∙ ap (λ l. front ++ l) part in
      let more_chars = ap chars joined
      ∙ chars-push front c (IsUtf8-between text at place utf8 from start h.boundary)
      (subst IsUtf8 joined (IsUtf8-between text at end utf8 (omega (arith, from)) start cut)) in
      record {
        from = omega (arith, from);
        boundary = cut;
        uncut = λ k past below. elim (cases_lt place k) [
          | inl later ↦ grind (arith, cases_Bool, character-within)
          | inr most ↦ grind (arith, cases_lt, starts-within)
        ];
        bound = omega (arith, h.bound, added-le state c, from);
        reads = λ more.
            subst (λ cs. IsInFirst limit cs (next_of state c) (width + added state c) more)
            (sym (ap (λ cs. cs ++ more) more_chars ∙ append_assoc (chars front) (c ∷ []) more))
            (IsInFirst-step limit (chars front ++ c ∷ more) state width c more (h.reads (c ∷ more))
            room);
      }

  -- it reads each part that goes on from there, as one that knows where the part ends
  pub scanned-reading : {place : ℕ} (v : ℕ) {state : State} {width : ℕ}
      → IsScanned test limit text at place state width → place ≤ v → IsCharBoundary text v
      → IsReading limit (slice_range text at v) (place - at) (slice_range text place v) state width
  scanned-reading {place} v h up_to cut =
      let from = h.from in
      let own = IsUtf8-between text place v utf8 up_to h.boundary cut in
      let place_is = slice_after text at place v from up_to in
      record {
        read = grind (arith, IsCharBoundary-from_drop, length-slice, from);
        bound = h.bound;
        inside = rw (ap chars (slices_joined text at place v from up_to)
            ∙ chars-append (slice_range text at place) (slice_range text place v)
            (IsUtf8-between text at place utf8 from start h.boundary))
            (h.reads (chars (slice_range text place v)));
      }

-- ---- where the reader of a piece stops: at a stop or at the end, and before a character with
-- which the piece would pass the limit

-- it does not stop before a character that is no blank, where there is no point
pub no-stop : (at_blanks : Bool) (splitter : Splitter) (text : List ℕ) (place : ℕ)
    → (at_blanks ≡ true → is_blank (get_or text place 0) ≡ false)
    → is_point splitter text place ≡ false → is_stop at_blanks splitter text place ≡ false
no-stop true splitter text place other none = rw (other refl) none
no-stop false splitter text place other none = none

module _ (at_blanks : Bool) (splitter : Splitter) (text : List ℕ) (utf8 : IsUtf8 text) where
  pub stops-between : HoldsBetween (is_stop at_blanks splitter text) text
  stops-between place some inside is =
      grind (arith, IsCharBoundary-before_ascii, eqb-true, or_cases, after-hyphen_byte, point-hyphen)

  module _ {limit at : ℕ} (end : ℕ) (start : IsCharBoundary text at)
      (last : IsCharBoundary text end) {place : ℕ} {state : State} {width : ℕ}
      (h : IsScanned (is_stop at_blanks splitter text) limit text at place state width) where
    -- where the first piece of the text up to a later place is found
    record Found (v : ℕ) : Type 0 where
      first : broken_texts limit (slice_range text at v)
          ≡ slice_range text at place ∷ broken_texts limit (slice_range text place v)
      wide : width ≡ text_width (slice_range text at place)

    found-at : (v : ℕ) → place ≤ v → IsFirstPiece limit (slice_range text at v) (place - at) width
        → Found v
    found-at v up_to found = grind (arith, slice_before, slice_after)

    some-text : (v : ℕ) → at < v → v ≤ length text → slice_range text at v ≢ []
    some-text v later within none = omega (arith, later, length-slice text at v within, ap length none)

    -- it stops there
    pub stop-here : place ≤ end → (place < end → is_stop at_blanks splitter text place ≡ true)
        → (at < end → at < place) → IsFirstStop (is_stop at_blanks splitter text) limit text at end place width
    stop-here within ends some =
        let read = scanned-reading utf8 start place h (omega arith) h.boundary in
        let whole = λ (later : at < place). found-at place (omega arith)
        (IsReading-end read (IsUtf8-between text at place utf8 h.from start h.boundary)
        (some-text place later h.boundary.0) (ap length (slice-nil text place))) in
        record {
          stop = place;
          within = within;
          cut = h.boundary;
          uncut = h.uncut;
          ends = ends;
          from = h.from;
          up_to = omega arith;
          some = some;
          boundary = h.boundary;
          first = λ inside. (whole (some inside)).first;
          wide = elim (cases_lt at place) [
            | inl later ↦ (whole later).wide
            | inr none ↦
                let same : at ≡ place = omega (arith, none, h.from) in
                let nothing : text_width (slice_range text at place) ≡ 0 =
                ap (λ k. text_width (slice_range text at k)) (sym same)
                ∙ ap text_width (slice-nil text at) ∙ text_width-nil in
                omega (arith, nothing, h.bound, same)
          ];
        }

    -- the piece would pass the limit with the character at the place
    pub stop-full : GoesOn (is_stop at_blanks splitter text) text at place → (c : ℕ) (after : List ℕ)
        → drop place text ≡ encode_utf8 c ++ after → place < end → shows state c ≡ true → 0 < width
        → is_due limit width (Visible c) ≡ true
        → IsFirstStop (is_stop at_blanks splitter text) limit text at end place width
    stop-full on c after is inside shown wide_some due =
        let next : HasEnd (is_stop at_blanks splitter text) end (place + 1) =
        end-from (is_stop at_blanks splitter text) end (place + 1) (omega (arith, inside)) in
        let v = next.end in
        let later : place < v = omega (arith, next.from) in
        let some : at < place = omega (arith, wide_some, h.bound) in
        let cut : IsCharBoundary text v = elim (cases_lt v end) [
          | inl before ↦ stops-between v (omega (arith, later)) (omega (arith, before, last.0)) (next.ends before)
          | inr none ↦ subst (IsCharBoundary text) (omega (arith, none, next.within)) last
        ] in
        let bytes = first-bytes text utf8 place c after h.boundary is v later cut in
        let read = scanned-reading utf8 start v h (omega (arith, later)) cut in
        let found = found-at v (omega (arith, later)) (IsReading-cut read c bytes.0
        (IsUtf8-between text at v utf8 (omega (arith, some, later)) start cut)
        (some-text v (omega (arith, some, later)) cut.0) bytes.1 shown due) in
        record {
          stop = v;
          within = next.within;
          cut = cut;
          uncut = λ k past below. elim (cases_lt place k) [
            | inl beyond ↦ next.uncut k (omega (arith, beyond)) below
            | inr most ↦ elim (cases_lt k place) [
              | inl sooner ↦ h.uncut k past sooner
              | inr least ↦
                  let same : place ≡ k = omega (arith, most, least) in
                  ap (is_stop at_blanks splitter text) (sym same) ∙ on (omega (arith, same, past)) (omega (arith, inside, last.0))
            ]
          ];
          ends = next.ends;
          from = h.from;
          up_to = omega (arith, later);
          some = λ _. some;
          boundary = h.boundary;
          first = λ _. found.first;
          wide = found.wide;
        }

-- ---- letters of printable ASCII, which the reader goes over all at once

module _ (at_blanks : Bool) (splitter : Splitter) (limit : ℕ) (text : List ℕ) (utf8 : IsUtf8 text)
    (at : ℕ) (start : IsCharBoundary text at)
    (between : HoldsBetween (is_stop at_blanks splitter text) text) where
  -- the reader past so many of them
  pub record IsPast (n : ℕ) : Type 0 where
    pub scanned : IsScanned (is_stop at_blanks splitter text) limit text at (at + n) Text n
    pub on : GoesOn (is_point splitter text) text at (at + n)

  pub scanned-letters : (n : ℕ) → n ≤ limit → at + n ≤ length text
      → ((k : ℕ) → k < n → IsLetter (get_or text (at + k) 0)) → IsPast n
  scanned-letters zero narrow within letters = record {
    scanned = subst (λ k. IsScanned (is_stop at_blanks splitter text) limit text at k Text 0)
        (omega arith) (scanned-start utf8 start);
    on = λ past. absurd (omega (arith, past));
  }
  scanned-letters (suc n) narrow within letters =
      let h = scanned-letters n (omega (arith, narrow)) (omega (arith, within))
      (λ k below. letters k (omega (arith, below))) in
      let place = at + n in
      let c = get_or text place 0 in
      let letter = letters n (omega arith) in
      let one = encode_ascii c (omega (arith, letter.printable.1)) in
      let is : drop place text ≡ encode_utf8 c ++ drop (place + 1) text =
      drop_more text place 0 (omega (arith, within)) ∙ sym (ap (λ bs. bs ++ drop (place + 1) text) one) in
      let on : GoesOn (is_stop at_blanks splitter text) text at place = λ past inside.
      no-stop at_blanks splitter text place (λ _. ne_eqb c 32 letter.not_blank) (h.on past inside) in
      let next = rw (printable-no_escape c letter.printable)
      at (scanned-step utf8 start c (drop (place + 1) text) between h.scanned on is
      (λ _. due-false limit n c (λ _. omega (arith, columns-printable c letter.printable, narrow)))) in
      let end : place + length (encode_utf8 c) ≡ at + suc n = omega (arith, ap length one) in
      let wide : n + columns c ≡ suc n = omega (arith, columns-printable c letter.printable) in
      record {
        scanned = rw (end, wide) at next;
        on = λ past inside.
            let step : place + 1 ≡ at + suc n = omega arith in
            rw (← step) (grind (arith, cases_Bool, point-hyphen));
      }
