-- The units of the first part of a text, and a character that begins at a place of it.
use Rattle.textwrap_text.proofs.Common.{chars_past_char, IsCharBoundary, IsCharBoundary-after_ascii}
use Rattle.textwrap_text.proofs.Common.{encode_utf8_all, encodes-chars, IsUtf8-between, IsUtf8-drop}
use Rattle.textwrap_text.proofs.Common.{chars-append, get_or-drop, get_or-take, length-append, List}
use Rattle.textwrap_text.proofs.Common.{cases_Bool, slice_range, sum_by-cons, TextUnit, units_width}
use Rattle.textwrap_text.proofs.Common.{add-zero, arith, cases_lt, drop_split, eqb-true, unit_width}
use Rattle.textwrap_text.proofs.Common.{[], is_blank, next_of, not-true, unit_at, Visible, zero-add}
use Rattle.textwrap_text.proofs.Common.{drop, false, get_or, IsUtf8, length, rules, shows, units, ℕ}
use Rattle.textwrap_text.proofs.Common.{inl, inr, refl, sym, true, ◌++◌, ◌+◌, ◌<◌, ◌∙◌, ◌∷◌, ◌≡◌}
use Rattle.textwrap_text.proofs.Common.{ap, ◌≢◌, ◌≤◌}
use Rattle.textwrap_text.proofs.Units.Reading.{added, units_in, units_in-inside, units_in-text}
use Rattle.textwrap_text.specs.declared.escapes.State.TheVariants.{Command, Control, Escape, Text}
use Rattle.std.specs.Prelude.{chars, encode_utf8}
use Rattle.textwrap_words.proofs.Common.{IsCharBoundary-before_ascii, length-slice, some-bytes}
use Rattle.textwrap_words.proofs.Common.{is_due, is_point, one-byte, Splitter, State}
use Rattle.textwrap_words.proofs.Word.Breaking.{left_units, taken_units}
use Rattle.textwrap_words.proofs.Word.Splitting.{point-hyphen}

-- ---- the units of the first part, one after another

-- the reader stands in the first piece of `cs`, which has `width` columns up to here, with `rest`
-- to come
pub record IsInFirst (limit : ℕ) (cs : List ℕ) (state : State) (width : ℕ)
    (rest : List ℕ) : Type 0 where
  pub leaves : left_units limit 0 (units cs) ≡ left_units limit width (units_in state rest)
  pub wide : units_width (taken_units limit 0 (units cs)) ≡ width + units_width
      (taken_units limit width (units_in state rest))

pub IsInFirst-start : (limit : ℕ) (cs : List ℕ) → IsInFirst limit cs Text 0 cs
IsInFirst-start limit cs = grind (arith, zero-add)

-- the reader goes over one unit of the text
text-unit : (limit width c : ℕ) (cs : List ℕ)
    → (shows Text c ≡ true → is_due limit width (Visible c) ≡ false)
    → (is_due limit width (unit_at c cs) ≡ false) × (unit_width (unit_at c cs) ≡ added Text c)
text-unit limit width c cs room = grind (arith, cases_Bool)

-- what comes in the state after a character, with what that character adds
record TakesUnit (limit width : ℕ) (us : List TextUnit) (more : ℕ) (vs : List TextUnit) : Type 0 where
  leaves : left_units limit width us ≡ left_units limit (width + more) vs
  wide : units_width (taken_units limit width us) ≡ more + units_width
      (taken_units limit (width + more) vs)

goes-unit : (limit width : ℕ) (u : TextUnit) (us : List TextUnit) → is_due limit width u ≡ false
    → TakesUnit limit width (u ∷ us) (unit_width u) us
goes-unit limit width u us on = record {
  leaves = rw on refl;
  wide = rw on (sum_by-cons unit_width u (taken_units limit (width + unit_width u) us));
}

goes-inside : (limit width : ℕ) (s : State) (c : ℕ) (cs : List ℕ) → s ≢ Text
    → TakesUnit limit width (units_in s (c ∷ cs)) 0 (units_in (next_of s c) cs)
goes-inside limit width s c cs inside = grind (arith, units_in-inside, add-zero, zero-add)

goes-on : (limit width : ℕ) (s : State) (c : ℕ) (cs : List ℕ)
    → (shows s c ≡ true → is_due limit width (Visible c) ≡ false)
    → TakesUnit limit width (units_in s (c ∷ cs)) (added s c) (units_in (next_of s c) cs)
goes-on limit width Text c cs room =
    let both = text-unit limit width c cs room in
    let on = goes-unit limit width (unit_at c cs) (units_in (next_of Text c) cs) both.0 in
    rw (units_in-text c cs, ← both.1) on
goes-on limit width Escape c cs room = goes-inside limit width Escape c cs (λ e. cc)
goes-on limit width Control c cs room = goes-inside limit width Control c cs (λ e. cc)
goes-on limit width (Command last) c cs room = goes-inside limit width (Command last) c cs (λ e. cc)

pub IsInFirst-step : (limit : ℕ) (cs : List ℕ) (s : State) (width c : ℕ) (rest : List ℕ)
    → IsInFirst limit cs s width (c ∷ rest)
    → (shows s c ≡ true → is_due limit width (Visible c) ≡ false)
    → IsInFirst limit cs (next_of s c) (width + added s c) rest
IsInFirst-step limit cs s width c rest h room = grind (arith, goes-on)

-- where the first piece ends and the reader goes no further
pub record EndsHere (limit : ℕ) (cs : List ℕ) (width : ℕ) (us : List TextUnit) : Type 0 where
  pub leaves : left_units limit 0 (units cs) ≡ us
  pub wide : units_width (taken_units limit 0 (units cs)) ≡ width

pub IsInFirst-cut : (limit : ℕ) (cs : List ℕ) (s : State) (width c : ℕ) (rest : List ℕ)
    → IsInFirst limit cs s width (c ∷ rest) → shows s c ≡ true
    → is_due limit width (Visible c) ≡ true → EndsHere limit cs width (units (c ∷ rest))
IsInFirst-cut limit cs Text width c rest h shown due = grind (arith, not-true)
IsInFirst-cut limit cs Escape width c rest h shown due = cc
IsInFirst-cut limit cs Control width c rest h shown due = cc
IsInFirst-cut limit cs (Command last) width c rest h shown due = cc

-- ---- a character that begins at a place of a text: where other characters end, and its bytes

module _ (text : List ℕ) (utf8 : IsUtf8 text) (place c : ℕ) (after : List ℕ)
    (here : IsCharBoundary text place) (is : drop place text ≡ encode_utf8 c ++ after) where
  -- up to wherever a later character ends, it is the first
  pub first-character : (v : ℕ) → place < v → IsCharBoundary text v
      → (ds : List ℕ) × (chars (slice_range text place v) ≡ c ∷ ds)
  first-character v later cut =
      let slice = slice_range text place v in
      let own = IsUtf8-between text place v utf8 (omega (arith, later)) here cut in
      let len = length-slice text place v cut.0 in
      by (chars slice) (chars (drop v text)) (sym (chars_past_char (drop place text) after c
      (IsUtf8-drop text place utf8 here) is)
      ∙ ap chars (drop_split text place v (omega (arith, later)))
      ∙ chars-append slice (drop v text) own)
      (λ none. absurd (omega (
        arith,
        later,
        len,
        ap length (sym (encodes-chars slice own)
            ∙ ap encode_utf8_all none),
      )))
    where
      by : (cs rest : List ℕ) → c ∷ chars after ≡ cs ++ rest → (cs ≡ [] → ⊥)
          → (ds : List ℕ) × (cs ≡ c ∷ ds)
      by [] rest both some = absurd (some refl)
      by (d ∷ ds) rest both some = (ds, ap (λ x. x ∷ ds) (sym (ap (λ l. get_or l 0 0) both)))

  -- the bytes of a part that begins with it
  pub first-bytes : (v : ℕ) → place < v → IsCharBoundary text v
      → (rest : List ℕ) × (slice_range text place v ≡ encode_utf8 c ++ rest)
  first-bytes v later cut =
      let first = first-character v later cut in (
        encode_utf8_all first.0,
        sym (encodes-chars (slice_range text place v) (IsUtf8-between text place v utf8
            (omega (arith, later)) here cut)) ∙ ap encode_utf8_all first.1,
      )

  pub character-within : (v : ℕ) → place < v → IsCharBoundary text v
      → place + length (encode_utf8 c) ≤ v
  character-within v later cut =
      let first = first-bytes v later cut in
      omega (
        arith,
        later,
        length-slice text place v cut.0,
        ap length first.1,
        length-append (encode_utf8 c) first.0,
      )

  -- a byte of ASCII in it is the whole character
  ascii-byte : (k b : ℕ) → place ≤ k → k < place + length (encode_utf8 c) → k < length text
      → get_or text k 0 ≡ b → b < 128 → (k ≡ place) × (c ≡ b)
  ascii-byte k b from below inside byte ascii = elim (cases_lt place k) [
    | inl past ↦
        grind (arith, character-within, IsCharBoundary-before_ascii)
    | inr none ↦
        let same : k ≡ place = omega (arith, none, from) in
        let v = place + 1 in
        let cut = IsCharBoundary-after_ascii text place utf8 (omega (arith, same, inside))
        (omega (arith, ap (λ n. get_or text n 0) (sym same) ∙ byte, ascii)) in
        grind (arith, first-character, length-slice, get_or-take, get_or-drop, one-byte)
  ]

  -- the splitter has a point after it only where it is a hyphen
  pub point-after : (splitter : Splitter) (k : ℕ) → k ≡ place + length (encode_utf8 c)
      → k < length text → (c ≡ 45 → is_point splitter text k ≡ false)
      → is_point splitter text k ≡ false
  point-after splitter k end inside point =
      search (rules, arith, cases_Bool, some-bytes, point-hyphen, ascii-byte)

  pub plain-bytes : c ≢ 32 → (k : ℕ) → place ≤ k → k < place + length (encode_utf8 c)
      → k < length text → is_blank (get_or text k 0) ≡ false
  plain-bytes other k from below inside = grind (arith, cases_Bool, ascii-byte, eqb-true)
