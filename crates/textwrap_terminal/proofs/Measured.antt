-- What stays of a text: its units are whole for the library too, so the library measures it as a
-- terminal does, and all of it stays again.
use Rattle.std.specs.Prelude.{chars}
use Rattle.textwrap_terminal.proofs.Kept.{common-ends, library-command, library-control}
use Rattle.textwrap_terminal.proofs.Units.{are_units, AreTerminalUnits-cons, AreTerminalUnits-head}
use Rattle.textwrap_terminal.proofs.Units.{units-of, units-tile}
use Rattle.textwrap_terminal.specs.States.{ends_common_part}
use Rattle.textwrap_terminal.specs.TerminalUnits as specs
use Rattle.textwrap_terminal.specs.TerminalUnits.{AreTerminalUnits, ends_in, ends_sequence}
use Rattle.textwrap_terminal.specs.TerminalUnits.{is_common, is_kept, IsOpenUnit, IsWholeUnit}
use Rattle.textwrap_terminal.specs.TerminalUnits.{last_but_one, last_passes, terminal_units}
use Rattle.textwrap_terminal.specs.TerminalUnits.{terminal_width, without_other_sequences}
use Rattle.textwrap_terminal.specs.declared.states.Part.TheVariants.{Command}
use Rattle.textwrap_terminal.specs.declared.states.Part.{Part}
use Rattle.textwrap_text.proofs.Common.{IsUtf8-append, length, List, or_cases, refl, Sequence}
use Rattle.textwrap_text.proofs.Common.{TextUnit, true, true≢false, unit_width, units_width}
use Rattle.textwrap_text.proofs.Common.{Visible, visible_of, zero, zero-add, ℕ, [], ⊎_elim, ◌&&◌}
use Rattle.textwrap_text.proofs.Common.{and_parts, ap, ap₂, arith, cases_Bool, characters}
use Rattle.textwrap_text.proofs.Common.{chars_from_encodes, columns, drop, encode_utf8_all}
use Rattle.textwrap_text.proofs.Common.{encodes-append, encodes-chars, eqb-true, escape, false}
use Rattle.textwrap_text.proofs.Common.{false≢true, filter, flat_map, get_or, inl, inr, IsUtf8}
use Rattle.textwrap_text.proofs.Common.{subst, suc, sum_by, sum_by-cons, sym, take, text_width}
use Rattle.textwrap_text.proofs.Common.{◌+◌, ◌<◌, ◌==◌, ◌||◌, ◌∙◌, ◌∷◌, ◌≡◌, ◌⊎◌}
use Rattle.textwrap_text.proofs.Texts.{utf8-back, utf8-front}
use Rattle.textwrap_text.proofs.Units.Texts.{units_unique, units_width-is}
use Rattle.textwrap_text.specs.Lists.{last}
use Rattle.textwrap_text.specs.Units as library
use Rattle.textwrap_text.specs.Units.{is_command_start, is_control_start}

-- ---- a sequence that stays is whole, and whole for the library

record IsCommon (cs : List ℕ) : Type 0 where
  start : ℕ
  rest : List ℕ
  shape : cs ≡ escape ∷ start ∷ rest
  starts : (start ≡ 91) ⊎ (start ≡ 93)
  ends : library.ends (start ∷ rest) ≡ true

IsCommon-from : (cs : List ℕ) → is_common cs ≡ true → IsCommon cs
IsCommon-from [] is = absurd (false≢true is)
IsCommon-from (c ∷ []) is = absurd (false≢true is)
IsCommon-from (c ∷ d ∷ cs) is =
    let starts = is_control_start d || is_command_start d in
    let (front, ends) = and_parts ((c == escape) && starts) (library.ends (d ∷ cs)) is in
    let (first, start) = and_parts (c == escape) starts front in
    record {
      start = d;
      rest = cs;
      shape = ap (λ x. x ∷ d ∷ cs) (eqb-true c escape first);
      starts = ⊎_elim (λ t. inl (eqb-true d 91 t)) (λ t. inr (eqb-true d 93 t))
          (or_cases (is_control_start d) (is_command_start d) start);
      ends = ends;
    }

common-passes : (part : Part) (b : ℕ) (cs : List ℕ)
    → last_passes (ends_common_part part) b cs ≡ true → last_passes (ends_in part) b cs ≡ true
common-passes part b [] passes = passes
common-passes part b (c ∷ cs) passes =
    let before = last_but_one (b ∷ c ∷ cs) in
    let now = last (b ∷ c ∷ cs) in
    elim (cases_Bool (ends_in part before now)) [
      | inl ended ↦ ended
      | inr on ↦ absurd (true≢false (sym passes ∙ common-ends part before now on))
    ]

library-ends : (start : ℕ) (cs : List ℕ) → (start ≡ 91) ⊎ (start ≡ 93)
    → library.ends (start ∷ cs) ≡ true → ends_sequence escape (start ∷ cs) ≡ true
library-ends start cs (inl control) passes =
    rw control (sym (library-control cs) ∙ (rw control at passes))
library-ends start cs (inr command) passes =
    rw command (common-passes Command 93 cs (sym (library-command cs) ∙ (rw command at passes)))

library-before : (start : ℕ) (cs : List ℕ) (k : ℕ) → (start ≡ 91) ⊎ (start ≡ 93)
    → ends_sequence escape (take k (start ∷ cs)) ≡ false
    → library.ends (take k (start ∷ cs)) ≡ false
library-before start cs zero starts on = refl
library-before start cs (suc k) starts on =
    elim (cases_Bool (library.ends (start ∷ take k cs))) [
      | inl ended ↦ absurd (true≢false (sym (library-ends start (take k cs) starts ended) ∙ on))
      | inr still ↦ still
    ]

sequence-whole : (cs : List ℕ) (c : ℕ) (body : List ℕ) → cs ≡ c ∷ body
    → ((k : ℕ) → k < length body → ends_sequence c (take k body) ≡ false) → is_common cs ≡ true
    → IsWholeUnit (Sequence cs) × library.IsWhole (Sequence cs)
sequence-whole cs c body shape before is =
    let h = IsCommon-from cs is in
    let rest = h.start ∷ h.rest in
    let same : c ∷ body ≡ escape ∷ rest = sym shape ∙ h.shape in
    let first : c ≡ escape = ap (λ l. get_or l 0 0) same in
    let others : body ≡ rest = ap (drop 1) same in
    let early : (k : ℕ) → k < length rest → ends_sequence escape (take k rest) ≡ false = λ k below.
    sym (ap₂ (λ x l. ends_sequence x (take k l)) first others)
    ∙ before k (subst (λ l. k < length l) (sym others) below) in (
      (escape, rest, h.shape, refl, library-ends h.start h.rest h.starts h.ends, early),
      (rest, h.shape, h.ends, λ k below. library-before h.start h.rest k h.starts (early k below)),
    )

kept-whole : (u : TextUnit) → IsWholeUnit u ⊎ IsOpenUnit u → is_kept u ≡ true
    → IsWholeUnit u × library.IsWhole u
kept-whole (Visible c) (inl whole) is = (whole, λ e. true≢false (rw e at whole))
kept-whole (Visible c) (inr open_last) is = absurd open_last
kept-whole (Sequence cs) (inl (c, body, shape, opens, stop, before)) is =
    sequence-whole cs c body shape before is
kept-whole (Sequence cs) (inr (c, body, shape, opens, before)) is =
    sequence-whole cs c body shape (λ k below. before k (omega (arith, below))) is

-- ---- the units that stay

library-cons : (u : TextUnit) (us : List TextUnit) → library.IsWhole u → library.AreUnits us
    → library.AreUnits (u ∷ us)
library-cons u [] whole rest = inl whole
library-cons u (v ∷ us) whole rest = (whole, rest)

kept-are : (us : List TextUnit) → AreTerminalUnits us
    → AreTerminalUnits (filter is_kept us) × library.AreUnits (filter is_kept us)
kept-are [] are = (tt, tt)
kept-are (u ∷ us) are =
    let (one, rest) = AreTerminalUnits-head u us are in
    let (terminal, common) = kept-are us rest in
    elim (cases_Bool (is_kept u)) [
      | inl stays ↦ let whole = kept-whole u one stays in rw stays (
        AreTerminalUnits-cons u (filter is_kept us) whole.0 terminal,
        library-cons u (filter is_kept us) whole.1 common,
      )
      | inr dropped ↦ rw dropped (terminal, common)
    ]

dropped-width : (u : TextUnit) → is_kept u ≡ false → unit_width u ≡ 0
dropped-width (Visible c) dropped = absurd (true≢false dropped)
dropped-width (Sequence cs) dropped = refl

kept-width : (us : List TextUnit) → units_width (filter is_kept us) ≡ units_width us
kept-width [] = refl
kept-width (u ∷ us) = elim (cases_Bool (is_kept u)) [
  | inl stays ↦ rw stays (sum_by-cons unit_width u (filter is_kept us)
      ∙ ap (λ n. unit_width u + n) (kept-width us) ∙ sym (sum_by-cons unit_width u us))
  | inr dropped ↦ rw dropped (kept-width us ∙ sym (sum_by-cons unit_width u us
      ∙ ap (λ n. n + units_width us) (dropped-width u dropped) ∙ zero-add (units_width us)))
]

kept-twice : (us : List TextUnit) → filter is_kept (filter is_kept us) ≡ filter is_kept us
kept-twice [] = refl
kept-twice (u ∷ us) = elim (cases_Bool (is_kept u)) [
  | inl stays ↦ rw (stays, stays) (ap (λ l. u ∷ l) (kept-twice us))
  | inr dropped ↦ rw dropped (kept-twice us)
]

-- ---- and their text

kept-utf8 : (us : List TextUnit) → IsUtf8 (encode_utf8_all (flat_map characters us))
    → IsUtf8 (encode_utf8_all (flat_map characters (filter is_kept us)))
kept-utf8 [] utf8 = utf8
kept-utf8 (u ∷ us) utf8 =
    let others = flat_map characters us in
    let kept = flat_map characters (filter is_kept us) in
    let rest = kept-utf8 us (utf8-back (characters u) others utf8) in
    elim (cases_Bool (is_kept u)) [
      | inl stays ↦ rw stays (subst IsUtf8 (sym (encodes-append (characters u) kept))
          (IsUtf8-append (encode_utf8_all (characters u)) (encode_utf8_all kept)
          (utf8-front (characters u) others utf8) rest))
      | inr dropped ↦ rw dropped rest
    ]

kept-chars : (text : List ℕ) → IsUtf8 text
    → chars (without_other_sequences text) ≡ specs.kept (chars text)
kept-chars text utf8 =
    let whole = encodes-chars text utf8 in
    let tiled = subst IsUtf8 (sym (ap encode_utf8_all (units-tile (chars text)) ∙ whole)) utf8 in
    sym (chars_from_encodes (specs.kept (chars text)) (without_other_sequences text)
    (kept-utf8 (terminal_units (chars text)) tiled) refl)

pub measured : (text : List ℕ) → IsUtf8 text
    → text_width (without_other_sequences text) ≡ terminal_width text
measured text utf8 =
    let us = terminal_units (chars text) in
    let stay = filter is_kept us in
    let (terminal, common) = kept-are us (are_units (chars text)) in
    let same : stay ≡ library.units (specs.kept (chars text)) =
    (units_unique (specs.kept (chars text)) stay).0 (refl, common) in
    ap (λ cs. sum_by columns (library.visible cs)) (kept-chars text utf8)
    ∙ ap (λ l. sum_by columns (flat_map visible_of l)) (sym same)
    ∙ units_width-is stay ∙ kept-width us

pub stay : (text : List ℕ) → IsUtf8 text
    → without_other_sequences (without_other_sequences text) ≡ without_other_sequences text
stay text utf8 =
    let us = terminal_units (chars text) in
    let (terminal, common) = kept-are us (are_units (chars text)) in
    ap (λ cs. encode_utf8_all (specs.kept cs)) (kept-chars text utf8)
    ∙ ap (λ l. encode_utf8_all (flat_map characters (filter is_kept l)))
    (units-of (filter is_kept us) terminal)
    ∙ ap (λ l. encode_utf8_all (flat_map characters l)) (kept-twice us)
