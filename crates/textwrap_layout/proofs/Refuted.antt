-- What the wrong bodies of must-fail/ answer on worked rows, and that no contract allows it: each
-- theorem bears the name of its edit.
use Rattle.std.specs.Prelude.{All, false, Some, true}
use Rattle.std.specs.Str.{chars}
use Rattle.textwrap_text.proofs.Common.{[], ◌∷◌, ◌≡◌, ◌∙◌, ℕ, List, All-head, ap, arith, Bool}
use Rattle.textwrap_text.proofs.Common.{codes, flat_map, length, map, refl}
use Rattle.textwrap_layout.proofs.Common.{AreIndented, AreSplit, AtHyphens, first_width, IsWrapped}
use Rattle.textwrap_layout.proofs.Common.{Line, line_from, LineParts, Slice, WordText}
use Rattle.textwrap_layout.proofs.Common.{Settings, fitting_pieces}
use Rattle.unicode_width.specs.Width.{char_width}
use Rattle.textwrap_layout.specs.Options.{default_algorithm, settings_at}
use Rattle.textwrap_layout.specs.Paragraph.{Built, indent_before}

-- ---- lines

abbrev is_first_slice : List Line → Bool
is_first_slice [] = true
is_first_slice (Slice bytes ∷ lines) = true
is_first_slice (Built bytes ∷ lines) = false

indent-none : (pieces : List WordText) → indent_before (settings_at 5) false pieces ≡ []
indent-none [] = refl
indent-none (w ∷ pieces) = refl

-- A first line that has neither indent nor penalty is a slice.
slice-first : (parts : List LineParts) → AreIndented (settings_at 5) false parts
    → All (λ p. p.penalty ≡ []) parts → is_first_slice (map line_from parts) ≡ true
slice-first [] indented plain = refl
slice-first (p ∷ parts) indented plain =
    let indent : p.indent ≡ [] = indented.0 ∙ indent-none p.pieces in
    let penalty : p.penalty ≡ [] = All-head (λ (q : LineParts). q.penalty ≡ []) p parts plain in
    rw (indent, penalty) refl

-- "foo-bar" at 5 columns: nothing is added to its lines, so they are slices.
pub every_line_copied : (Divides : Bool → List ℕ → List (List WordText) → Type 0)
    → IsWrapped (settings_at 5) (Some AtHyphens) (Some default_algorithm) Divides
    (codes "foo-bar") (Built (codes "foo-") ∷ Built (codes "bar") ∷ []) → ⊥
every_line_copied Divides wrapped =
    let parts = flat_map (λ (group : List LineParts). group) wrapped.are.groups in
    let slice : false ≡ true = ap is_first_slice wrapped.are.given
    ∙ slice-first parts wrapped.adds.indents (wrapped.adds.no_hyphen (λ is. cc)) in
    cc

-- At 7 columns, a later paragraph begins with a line of 7 columns, and not of the 3 that its indent
-- leaves, as even paragraphs are not asked for.
pub even_paragraphs_without_being_asked :
    3 ≡ first_width (record (settings_at 7) { subsequent_indent = codes "    " }) true → ⊥
unfolding chars
even_paragraphs_without_being_asked is = let narrow : 3 ≡ 7 = is in absurd (omega (arith, narrow))

-- ---- pieces

-- A word, however wide, has a piece.
pub too_wide_words_dropped : (Points : List ℕ → List ℕ → Type 0) (w : WordText)
    → AreSplit Points (w ∷ []) [] → ⊥
too_wide_words_dropped Points w ([], rest, may, rest_are, is) = cc
too_wide_words_dropped Points w (point ∷ points, rest, may, rest_are, is) = cc

-- "Zei" at 3 columns with a hyphen behind it is broken, where the hyphen is to have room.
abbrev zei : WordText
zei = record { word = codes "Zei"; whitespace = []; penalty = codes "-"; width = 3 }

abbrev with_room : Settings
with_room = record (settings_at 3) { room_for_hyphens = true }

pieces-zei : length (fitting_pieces with_room (zei ∷ [])) ≡ 2
unfolding chars char_width lib.Utf8.encode
pieces-zei = refl

pub hyphen_without_room : zei ∷ [] ≡ fitting_pieces with_room (zei ∷ []) → ⊥
hyphen_without_room is = let one : 1 ≡ 2 = ap length is ∙ pieces-zei in absurd (omega (arith, one))
