-- How long the lines of a paragraph are at most.
use Rattle.textwrap.proofs.Text.PlainFilled.{bytes_of}
use Rattle.textwrap_calls.proofs.Common.{length-append, Bool, line_bytes, LineParts, ℕ, line_from}
use Rattle.textwrap_calls.proofs.Common.{All-head, All-tail, Settings, WordText, length, arith}
use Rattle.textwrap_calls.proofs.Common.{List, flat, true, All, ◌*◌, ◌+◌, ◌∷◌, ◌≡◌, ◌≤◌, [], ap}
use Rattle.textwrap_layout.specs.Paragraph.{indent_before}
use Rattle.textwrap_lines.proofs.Common.{AreIndented, indent_of, assembled_line}
use Rattle.textwrap_plain.proofs.Balance.Counts.{slices}

-- ---- how long lines are

pub indent-length : (settings : Settings) (is_later : Bool) (pieces : List WordText)
    → length (indent_before settings is_later pieces) ≤ length (indent_of settings is_later)
indent-length settings is_later [] = omega arith
indent-length settings is_later (w ∷ words) = omega arith

-- behind what a line covers, at most so many bytes are printed
abbrev pub AddsAtMost : ℕ → LineParts → Type 0
AddsAtMost most p = length p.penalty ≤ most

assembled-length : (indent slice penalty : List ℕ)
    → length (line_bytes (assembled_line indent slice penalty))
    ≡ length indent + length slice + length penalty
assembled-length [] slice [] = omega arith
assembled-length [] slice (c ∷ penalty) = grind (arith, length-append)
assembled-length (c ∷ indent) slice penalty = grind (arith, length-append)

pub line-length : (settings : Settings) (is_later : Bool) (most : ℕ) (p : LineParts)
    → AddsAtMost most p → p.indent ≡ indent_before settings is_later p.pieces
    → length (line_bytes (line_from p)) ≤ length (indent_of settings is_later) + length p.slice + most
line-length settings is_later most p adds is =
    omega (
      arith,
      assembled-length p.indent p.slice p.penalty,
      ap length is,
      indent-length settings is_later p.pieces,
    )

-- those after another one
pub later-length : (settings : Settings) (most each : ℕ)
    → length settings.subsequent_indent + most ≤ each → (parts : List LineParts)
    → AreIndented settings true parts → All (AddsAtMost most) parts
    → length (flat (bytes_of parts)) ≤ length (slices parts) + length parts * each
later-length settings most each enough [] are adds = omega arith
later-length settings most each enough (p ∷ parts) are adds =
    omega (
      arith,
      line-length settings true most p (All-head (AddsAtMost most) p parts adds) are.0,
      later-length settings most each enough parts are.1 (All-tail (AddsAtMost most) p parts adds),
      length-append {A = ℕ},
    )
