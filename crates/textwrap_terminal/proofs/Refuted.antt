-- What the wrong bodies of must-fail/ answer on worked rows, and that no contract allows it: each
-- theorem bears the name of its edit.
use Rattle.std.specs.Str.{chars}
use Rattle.textwrap_terminal.specs.TerminalUnits.{terminal_width}
use Rattle.textwrap_text.proofs.Common.{arith, columns, refl, [], ◌+◌, ◌∷◌, ◌≡◌}
use Rattle.textwrap_text.proofs.Units.Reading.{columns-printable}

-- DCS `a` BEL `b`: all of it is a sequence without an end, but `b` is visible where BEL ends it.
pub device_string_ended_by_a_bell : 1 ≡ terminal_width (27 ∷ 80 ∷ 97 ∷ 7 ∷ 98 ∷ []) → ⊥
unfolding chars
device_string_ended_by_a_bell wrong =
    let right : terminal_width (27 ∷ 80 ∷ 97 ∷ 7 ∷ 98 ∷ []) ≡ 0 = refl in
    absurd (omega (arith, wrong, right))

-- `ESC ( B a`: one column, but two where `ESC (` is whole.
pub intermediates_not_taken : 2 ≡ terminal_width (27 ∷ 40 ∷ 66 ∷ 97 ∷ []) → ⊥
unfolding chars
intermediates_not_taken wrong =
    let one : columns 97 ≡ 1 = columns-printable 97 (omega arith, omega arith) in
    let right : terminal_width (27 ∷ 40 ∷ 66 ∷ 97 ∷ []) ≡ 0 + columns 97 = refl in
    absurd (omega (arith, wrong, right, one))
