-- The first unit of a text, and whether it stays: the reader tells which sequences the library
-- takes as such.
use Rattle.std.proofs.lemmas.Str.{len_utf8_bounds}
use Rattle.std.specs.Prelude.{chars, encode_utf8}
use Rattle.textwrap_terminal.proofs.Reading.{units_in, units_in-inside, units_in-text}
use Rattle.textwrap_terminal.proofs.Units.{last_but_one-cons, last_passes-cons, part-len}
use Rattle.textwrap_terminal.proofs.Units.{units-tile}
use Rattle.textwrap_terminal.specs.States.{ends_common, ends_common_part, entered, next_state}
use Rattle.textwrap_terminal.specs.States.{stays}
use Rattle.textwrap_terminal.specs.TerminalUnits as specs
use Rattle.textwrap_terminal.specs.TerminalUnits.{ends_in, ends_sequence, escape_part, first_len}
use Rattle.textwrap_terminal.specs.TerminalUnits.{first_unit_of, has_no_other, is_common, is_kept}
use Rattle.textwrap_terminal.specs.TerminalUnits.{last_passes, opens_sequence, terminal_units}
use Rattle.textwrap_terminal.specs.TerminalUnits.{without_other_sequences}
use Rattle.textwrap_terminal.specs.declared.states.Part.TheVariants.{Command, Control}
use Rattle.textwrap_terminal.specs.declared.states.Part.TheVariants.{Intermediates, Other}
use Rattle.textwrap_terminal.specs.declared.states.Part.{Part}
use Rattle.textwrap_terminal.specs.declared.states.TerminalState.TheVariants.{Escape, Inside, Text}
use Rattle.textwrap_terminal.specs.declared.states.TerminalState.{TerminalState}
use Rattle.textwrap_text.proofs.Common.{and_parts, ap, ap₂, arith, Bool, cases_Bool, cases_eq}
use Rattle.textwrap_text.proofs.Common.{characters, chars-nil, cond, drop, encode_utf8_all}
use Rattle.textwrap_text.proofs.Common.{encodes-append, encodes-chars, eqb-true, escape, false}
use Rattle.textwrap_text.proofs.Common.{filter, flat_map, inl, inr, IsUtf8, length, length-append}
use Rattle.textwrap_text.proofs.Common.{length-drop, length-encode, List, list_all, nat_tests}
use Rattle.textwrap_text.proofs.Common.{ne_eqb, nil_from_length, None, Option, refl, Some, subst}
use Rattle.textwrap_text.proofs.Common.{sym, take, TextUnit, true, ℕ, [], ◌&&◌, ◌++◌, ◌+◌, ◌<◌}
use Rattle.textwrap_text.proofs.Common.{◌==◌, ◌∙◌, ◌∷◌, ◌≡◌, ◌≢◌, ◌⊎◌}
use Rattle.textwrap_text.proofs.Lists.Parts.{last-cons}
use Rattle.textwrap_text.proofs.Texts.{cut_text}
use Rattle.textwrap_text.proofs.Units.Reading.{IsRead, read-ahead, read-next, read-none, read-start}
use Rattle.textwrap_text.specs.Units as library
use Rattle.textwrap_text.specs.Units.{is_command_end, is_control_end}

-- ---- what the reader tells of the sequence that is being read

-- whether the library takes it as such, where this is what the last character read told
abbrev pub common_in : List ℕ → TerminalState → Bool → Bool
common_in [] s is = is
common_in (c ∷ cs) Text is = is
common_in (c ∷ cs) Escape is = common_in cs (next_state Escape c) false
common_in (c ∷ cs) (Inside part last) is =
    common_in cs (next_state (Inside part last) c) (ends_common_part part last c)

common-step : (s : TerminalState) (c : ℕ) (cs : List ℕ) (is : Bool) → s ≢ Text
    → common_in (c ∷ cs) s is ≡ common_in cs (next_state s c) (ends_common s c)
common-step Text c cs is inside = absurd (inside refl)
common-step Escape c cs is inside = refl
common-step (Inside part last) c cs is inside = refl

common-text : (cs : List ℕ) (is : Bool) → common_in cs Text is ≡ is
common-text [] is = refl
common-text (c ∷ cs) is = refl

-- what ends a sequence for the library ends it
pub common-ends : (part : Part) (b c : ℕ) → ends_in part b c ≡ false
    → ends_common_part part b c ≡ false
common-ends Control b c on = on
common-ends Command b c on = grind (arith, cases_Bool, nat_tests)
common-ends Other b c on = refl
common-ends Intermediates b c on = refl

common-part : (part : Part) (b : ℕ) (cs : List ℕ) → common_in cs (Inside part b) false
    ≡ last_passes (ends_common_part part) b (take (first_len cs (last_passes (ends_in part) b)) cs)
common-part part b [] = refl
common-part part b (c ∷ cs) = elim (cases_Bool (ends_in part b c)) [
  | inl here ↦ rw (part-len (ends_in part) b c cs, here)
      (common-text cs (ends_common_part part b c))
  | inr on ↦ rw (part-len (ends_in part) b c cs, on, common-ends part b c on)
      (common-part part c cs ∙ sym (last_passes-cons (ends_common_part part) b c
      (common-ends part b c on) (take (first_len cs (last_passes (ends_in part) c)) cs)))
]

-- ---- what the library says of it

pub library-control : (cs : List ℕ)
    → library.ends (91 ∷ cs) ≡ last_passes (ends_common_part Control) 91 cs
library-control [] = refl
library-control (c ∷ cs) = ap is_control_end (sym (last-cons 91 c cs))

pub library-command : (cs : List ℕ)
    → library.ends (93 ∷ cs) ≡ last_passes (ends_common_part Command) 93 cs
library-command [] = refl
library-command (c ∷ []) = grind (arith, cases_Bool, nat_tests)
library-command (c ∷ d ∷ cs) =
    ap₂ is_command_end (sym (last_but_one-cons 93 c d cs)) (sym (last-cons 93 c (d ∷ cs)))

passes-never : (b : ℕ) (cs : List ℕ) → last_passes (λ _ _. false) b cs ≡ false
passes-never b [] = refl
passes-never b (c ∷ cs) = refl

not-common : (part : Option Part) (c : ℕ) (cs : List ℕ) → part ≢ Some Control → part ≢ Some Command
    → common_in cs (entered part c) false ≡ false
not-common None c cs control command = common-text cs false
not-common (Some Control) c cs control command = absurd (control refl)
not-common (Some Command) c cs control command = absurd (command refl)
not-common (Some Other) c cs control command = common-part Other c cs
    ∙ passes-never c (take (first_len cs (last_passes (ends_in Other) c)) cs)
not-common (Some Intermediates) c cs control command = common-part Intermediates c cs
    ∙ passes-never c (take (first_len cs (last_passes (ends_in Intermediates) c)) cs)

no-control : (d : ℕ) → d ≢ 91 → escape_part d ≢ Some Control
no-control d other is = grind (arith, cases_Bool, nat_tests)

no-command : (d : ℕ) → d ≢ 93 → escape_part d ≢ Some Command
no-command d other is = grind (arith, cases_Bool, nat_tests)

-- whether a sequence stays that begins with ESC and this character
pub escape-common : (d : ℕ) (cs : List ℕ)
    → is_common (escape ∷ take (first_len (d ∷ cs) (ends_sequence escape)) (d ∷ cs))
    ≡ common_in (d ∷ cs) Escape false
escape-common d cs = elim (cases_eq d 91) [
  | inl control ↦ rw control
      (library-control (take (first_len cs (last_passes (ends_in Control) 91)) cs)
      ∙ sym (common-part Control 91 cs))
  | inr other ↦ elim (cases_eq d 93) [
    | inl command ↦ rw command
        (library-command (take (first_len cs (last_passes (ends_in Command) 93)) cs)
        ∙ sym (common-part Command 93 cs))
    | inr neither ↦ rw (ne_eqb d 91 other, ne_eqb d 93 neither)
        (sym (not-common (escape_part d) d cs (no-control d other) (no-command d neither)))
  ]
]

-- ---- whether the first unit stays

not-escape : (c : ℕ) (cs : List ℕ) → (c == escape) ≡ false → is_common (c ∷ cs) ≡ false
not-escape c [] other = refl
not-escape c (d ∷ cs) other = rw other refl

first-stays : (c : ℕ) (cs : List ℕ)
    → is_kept (first_unit_of c cs) ≡ stays c (common_in cs (next_state Text c) false)
first-stays c cs = elim (cases_Bool (opens_sequence c)) [
  | inr visible ↦ rw visible refl
  | inl opens ↦ elim (cases_Bool (c == escape)) [
    | inr other ↦ rw (opens, other) (not-escape c _ other)
    | inl is ↦ rw (eqb-true c escape is) (after-escape cs)
  ]
]
  where
    after-escape : (cs : List ℕ)
        → is_common (escape ∷ take (first_len cs (ends_sequence escape)) cs)
        ≡ common_in cs Escape false
    after-escape [] = refl
    after-escape (d ∷ cs) = escape-common d cs

-- ---- the first unit of a text, of which a part was read

-- the reader has read the text up to this place, which is in its first unit or at the end of that
pub record IsInFirst (text : List ℕ) (place : ℕ) (rest : List ℕ) (state : TerminalState) (first : ℕ)
    (is : Bool) : Type 0 where
  pub read : IsRead text place rest
  pub some : 0 < place
  pub unit : TextUnit
  pub units : terminal_units (chars text) ≡ unit ∷ units_in state (chars rest)
  pub kept : is_kept unit ≡ stays first (common_in (chars rest) state is)

pub first-start : (text after : List ℕ) (c end : ℕ) → IsUtf8 text → text ≡ encode_utf8 c ++ after
    → end ≡ 0 + length (encode_utf8 c) → IsInFirst text end after (next_state Text c) c false
first-start text after c end utf8 is past =
    let start = read-start text utf8 in
    record {
      read = read-next start c after is end past;
      some = omega (arith, past, length-encode c, (len_utf8_bounds c).0);
      unit = first_unit_of c (chars after);
      units = ap (units_in Text) (read-ahead start c after is) ∙ units_in-text c (chars after);
      kept = first-stays c (chars after);
    }

module _ {text : List ℕ} {place : ℕ} {rest : List ℕ} {state : TerminalState} {first : ℕ} {is : Bool}
    (h : IsInFirst text place rest state first is) where
  pub first-step : (c end : ℕ) (after : List ℕ) → state ≢ Text → rest ≡ encode_utf8 c ++ after
      → end ≡ place + length (encode_utf8 c)
      → IsInFirst text end after (next_state state c) first (ends_common state c)
  first-step c end after inside next past =
      let ahead = read-ahead h.read c after next in
      record {
        read = read-next h.read c after next end past;
        some = omega (arith, h.some, past);
        unit = h.unit;
        units = h.units ∙ ap (λ us. h.unit ∷ us)
            (ap (units_in state) ahead ∙ units_in-inside state c (chars after) inside);
        kept = h.kept ∙ ap (stays first) (ap (λ l. common_in l state is) ahead
            ∙ common-step state c (chars after) is inside);
      }

  first-over : (state ≡ Text) ⊎ (length rest ≡ 0)
      → (units_in state (chars rest) ≡ terminal_units (chars rest))
      × (common_in (chars rest) state is ≡ is)
  first-over (inl over) = rw over (refl, common-text (chars rest) is)
  first-over (inr none) = rw (read-none h.read none) (refl, refl)

  -- the unit takes the bytes up to this place
  first-bytes : IsUtf8 text → terminal_units (chars text) ≡ h.unit ∷ terminal_units (chars rest)
      → take place text ≡ encode_utf8_all (characters h.unit)
  first-bytes utf8 units =
      let unit = encode_utf8_all (characters h.unit) in
      let tiles : chars text ≡ characters h.unit ++ chars rest = sym (units-tile (chars text))
      ∙ ap (flat_map characters) units
      ∙ ap (λ l. characters h.unit ++ l) (units-tile (chars rest)) in
      let cut = cut_text text (characters h.unit) (chars rest) utf8 tiles in
      let len : length unit ≡ place = omega (
        arith,
        ap length cut.whole,
        length-append unit (encode_utf8_all (chars rest)),
        ap length (encodes-chars rest h.read.utf8),
        ap length h.read.place,
        length-drop place text,
        h.read.boundary.0,
      ) in
      subst (λ n. take n text ≡ unit) len cut.front

-- a text begins with a unit of so many bytes, which stays or not, before what is left
pub record IsFirst (text : List ℕ) (len : ℕ) (stays : Bool) (left : List ℕ) : Type 0 where
  pub kept : without_other_sequences text
      ≡ cond stays (take len text) [] ++ without_other_sequences left
  pub other : has_no_other text ≡ (stays && has_no_other left)

first-kept : (unit : TextUnit) (front : List ℕ) (others : List TextUnit) (b : Bool)
    → is_kept unit ≡ b → front ≡ encode_utf8_all (characters unit)
    → encode_utf8_all (flat_map characters (filter is_kept (unit ∷ others)))
    ≡ cond b front [] ++ encode_utf8_all (flat_map characters (filter is_kept others))
first-kept unit front others true is bytes =
    let rest = flat_map characters (filter is_kept others) in
    rw is (encodes-append (characters unit) rest ∙ ap (λ l. l ++ encode_utf8_all rest) (sym bytes))
first-kept unit front others false is bytes = rw is refl

pub first-end : {text : List ℕ} {place : ℕ} {rest : List ℕ} {state : TerminalState} {first : ℕ}
    {is : Bool}
    → IsInFirst text place rest state first is → IsUtf8 text → (state ≡ Text) ⊎ (length rest ≡ 0)
    → IsFirst text place (stays first is) (drop place text)
first-end {text} {place} {rest} {state} {first} {is} h utf8 over =
    let (units, common) = first-over h over in
    let all = h.units ∙ ap (λ us. h.unit ∷ us) units in
    let told = h.kept ∙ ap (stays first) common in
    let others = terminal_units (chars rest) in
    let here : IsFirst text place (stays first is) rest = record {
      kept = ap (λ us. encode_utf8_all (flat_map characters (filter is_kept us))) all
          ∙ first-kept h.unit (take place text) others (stays first is) told
          (first-bytes h utf8 all);
      other = ap (list_all is_kept) all ∙ ap (λ b. b && list_all is_kept others) told;
    } in
    subst (IsFirst text place (stays first is)) (sym h.read.place) here

-- ---- where nothing is left, or all stays

pub kept-none : (rest : List ℕ) → length rest ≡ 0 → without_other_sequences rest ≡ []
kept-none rest none =
    ap (λ cs. encode_utf8_all (specs.kept cs)) (ap chars (nil_from_length rest none) ∙ chars-nil)

pub other-none : (rest : List ℕ) → length rest ≡ 0 → has_no_other rest ≡ true
other-none rest none =
    ap (λ cs. list_all is_kept (terminal_units cs))
    (ap chars (nil_from_length rest none) ∙ chars-nil)

filter-all : (us : List TextUnit) → list_all is_kept us ≡ true → filter is_kept us ≡ us
filter-all [] all = refl
filter-all (u ∷ us) all =
    let (here, rest) = and_parts (is_kept u) (list_all is_kept us) all in
    rw here (ap (λ l. u ∷ l) (filter-all us rest))

pub all-kept : (text : List ℕ) → IsUtf8 text → has_no_other text ≡ true
    → without_other_sequences text ≡ text
all-kept text utf8 all = ap encode_utf8_all (ap (flat_map characters)
    (filter-all (terminal_units (chars text)) all) ∙ units-tile (chars text))
    ∙ encodes-chars text utf8
