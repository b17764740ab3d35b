-- The reader of characters: its states, what they take of a text, and the columns of that.
use Rattle.std.specs.Prelude.{chars, encode_utf8}
use Rattle.textwrap_terminal.proofs.Units.{first-same, part-len}
use Rattle.textwrap_terminal.specs.States.{entered, is_shown, next_state}
use Rattle.textwrap_terminal.specs.TerminalUnits.{control_part, ends_behind, ends_escape, ends_in}
use Rattle.textwrap_terminal.specs.TerminalUnits.{ends_sequence, escape_part, first_len}
use Rattle.textwrap_terminal.specs.TerminalUnits.{first_unit_of, is_control, last_passes}
use Rattle.textwrap_terminal.specs.TerminalUnits.{opens_sequence, taken_by, terminal_units_past}
use Rattle.textwrap_terminal.specs.TerminalUnits.{terminal_width}
use Rattle.textwrap_terminal.specs.declared.states.Part.{Part}
use Rattle.textwrap_terminal.specs.declared.states.TerminalState.TheVariants.{Escape, Inside, Text}
use Rattle.textwrap_terminal.specs.declared.states.TerminalState.{TerminalState}
use Rattle.textwrap_text.proofs.Common.{None, Option, refl, Some, suc, sum_by-cons, sym, TextUnit}
use Rattle.textwrap_text.proofs.Common.{ap, arith, cases_Bool, cases_eq, columns, cond, escape}
use Rattle.textwrap_text.proofs.Common.{false, inl, inr, IsUtf8, length, List, nat_tests, ne_eqb}
use Rattle.textwrap_text.proofs.Common.{unit_width, units_width, zero-add, ℕ, [], ◌++◌, ◌+◌, ◌∙◌}
use Rattle.textwrap_text.proofs.Common.{◌∷◌, ◌≡◌, ◌≢◌, ◌≤◌}
use Rattle.textwrap_text.proofs.Units.Reading.{columns-le, IsRead, read-ahead, read-next, read-none}
use Rattle.textwrap_text.proofs.Units.Reading.{read-start}

-- ---- what the states of the reader take of a text

-- how many of the characters to come belong to the sequence that is being read
abbrev pub taken_in : TerminalState → List ℕ → ℕ
taken_in Text cs = 0
taken_in Escape cs = first_len cs ends_escape
taken_in (Inside part last) cs = first_len cs (last_passes (ends_in part) last)

taken-entered : (part : Option Part) (c : ℕ) (cs : List ℕ)
    → first_len cs (ends_behind part c) ≡ taken_in (entered part c) cs
taken-entered None c [] = refl
taken-entered None c (d ∷ cs) = refl
taken-entered (Some part) c cs = refl

-- a character inside a sequence is taken from it
taken-step : (s : TerminalState) (c : ℕ) (cs : List ℕ) → s ≢ Text
    → taken_in s (c ∷ cs) ≡ suc (taken_in (next_state s c) cs)
taken-step Text c cs inside = absurd (inside refl)
taken-step Escape c cs inside = ap suc (taken-entered (escape_part c) c cs)
taken-step (Inside part last) c cs inside = ap suc (part-len (ends_in part) last c cs)
    ∙ elim (cases_Bool (ends_in part last c)) [ inl t ↦ rw t refl | inr f ↦ rw f refl ]

-- the units that begin in the characters to come
abbrev pub units_in : TerminalState → List ℕ → List TextUnit
units_in s cs = terminal_units_past (taken_in s cs) cs

pub units_in-inside : (s : TerminalState) (c : ℕ) (cs : List ℕ) → s ≢ Text
    → units_in s (c ∷ cs) ≡ units_in (next_state s c) cs
units_in-inside s c cs inside = ap (λ n. terminal_units_past n (c ∷ cs)) (taken-step s c cs inside)

no_part : (c : ℕ) → is_control c ≡ false → control_part c ≡ None
no_part c other = grind (arith, nat_tests)

taken-opening : (c : ℕ) (cs : List ℕ) → taken_by c cs ≡ taken_in (next_state Text c) cs
taken-opening c cs = elim (cases_eq c escape) [
  | inl is ↦ rw is refl
  | inr other ↦ elim (cases_Bool (is_control c)) [
    | inl control ↦ rw (ne_eqb c escape other, control)
        (first-same cs (ends_sequence c) (ends_behind (control_part c) c)
        (λ l. rw (ne_eqb c escape other) refl)
        ∙ taken-entered (control_part c) c cs)
    | inr visible ↦ rw (ne_eqb c escape other, visible, no_part c visible) refl
  ]
]

pub units_in-text : (c : ℕ) (cs : List ℕ)
    → units_in Text (c ∷ cs) ≡ first_unit_of c cs ∷ units_in (next_state Text c) cs
units_in-text c cs = ap (λ n. first_unit_of c cs ∷ terminal_units_past n cs) (taken-opening c cs)

-- ---- columns

-- the columns of the characters to come
abbrev pub columns_in : TerminalState → List ℕ → ℕ
columns_in s cs = units_width (units_in s cs)

-- those that a character adds
abbrev pub added : TerminalState → ℕ → ℕ
added s c = cond (is_shown s c) (columns c) 0

added-inside : (s : TerminalState) (c : ℕ) → s ≢ Text → added s c ≡ 0
added-inside Text c inside = absurd (inside refl)
added-inside Escape c inside = refl
added-inside (Inside part last) c inside = refl

unit_width-at : (c : ℕ) (cs : List ℕ) → unit_width (first_unit_of c cs) ≡ added Text c
unit_width-at c cs = elim (cases_Bool (opens_sequence c)) [ inl t ↦ rw t refl | inr f ↦ rw f refl ]

inside-step : (s : TerminalState) (c : ℕ) (cs : List ℕ) → s ≢ Text
    → columns_in s (c ∷ cs) ≡ added s c + columns_in (next_state s c) cs
inside-step s c cs inside = ap units_width (units_in-inside s c cs inside)
    ∙ sym (ap (λ n. n + columns_in (next_state s c) cs) (added-inside s c inside)
    ∙ zero-add (columns_in (next_state s c) cs))

-- one step over a character
columns_in-step : (s : TerminalState) (c : ℕ) (cs : List ℕ)
    → columns_in s (c ∷ cs) ≡ added s c + columns_in (next_state s c) cs
columns_in-step Text c cs = ap units_width (units_in-text c cs)
    ∙ sum_by-cons unit_width (first_unit_of c cs) (units_in (next_state Text c) cs)
    ∙ ap (λ n. n + columns_in (next_state Text c) cs) (unit_width-at c cs)
columns_in-step Escape c cs = inside-step Escape c cs (λ e. cc)
columns_in-step (Inside part last) c cs = inside-step (Inside part last) c cs (λ e. cc)

added-le : (s : TerminalState) (c : ℕ) → added s c ≤ length (encode_utf8 c)
added-le s c = grind (arith, cases_Bool, columns-le c)

-- the reader has read up to the place, and the rest is left
pub record IsMeasured (text : List ℕ) (place : ℕ) (rest : List ℕ) (state : TerminalState)
    (width : ℕ) : Type 0 where
  pub read : IsRead text place rest
  pub columns : terminal_width text ≡ width + columns_in state (chars rest)
  pub within : width ≤ place

pub measured-start : (text : List ℕ) → IsUtf8 text → IsMeasured text 0 text Text 0
measured-start text utf8 =
    record { read = read-start text utf8; columns = omega arith; within = omega arith }

-- it goes over a character
pub measured-step : (text : List ℕ) (place end c : ℕ) (rest after : List ℕ) (state : TerminalState)
    (width : ℕ)
    → IsMeasured text place rest state width → rest ≡ encode_utf8 c ++ after
    → end ≡ place + length (encode_utf8 c)
    → IsMeasured text end after (next_state state c) (width + added state c)
measured-step text place end c rest after state width h is past = record {
  read = read-next h.read c after is end past;
  columns = h.columns ∙ (let step = ap (columns_in state) (read-ahead h.read c after is)
      ∙ columns_in-step state c (chars after) in omega (arith, step));
  within = omega (arith, h.within, past, added-le state c);
}

pub measured-end : (text : List ℕ) (place : ℕ) (rest : List ℕ) (state : TerminalState) (width : ℕ)
    → IsMeasured text place rest state width → length rest ≡ 0 → width ≡ terminal_width text
measured-end text place rest state width h none =
    let nothing = ap (columns_in state) (read-none h.read none) in omega (arith, h.columns, nothing)
