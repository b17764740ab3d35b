-- The pieces of a word that is too wide for a line.
use Rattle.std.specs.Prelude.{◌≡◌, ◌≢◌, ℕ, ◌+◌, ◌<◌, ◌≤◌, Bool, false, nat_lt, ◌&&◌, List, [], ◌∷◌}
use Rattle.std.specs.Prelude.{◌++◌, All, map, if◌then◌else◌, chars, encode_utf8_all, ⊤}
use Rattle.std.specs.List.{flat_map, onto_first}
use Rattle.textwrap_text.specs.Units.{TextUnit, Visible, characters, columns, units, unit_width}
use Rattle.textwrap_text.specs.Units.{Sequence, units_width}
use Rattle.textwrap_words.specs.Words.{WordText, word_view, piece}
use Rattle.textwrap_words.specs.declared.words.breaking.BreakApart.{BreakApart}

-- ---- the parts into which the units of a text are broken

-- with each visible character that has columns before it, the part keeps to the limit
abbrev pub IsKept : ℕ → List TextUnit → Type 0
IsKept limit part = (before after : List TextUnit) (c : ℕ) → part ≡ before ++ Visible c ∷ after
    → 0 < units_width before → units_width before + columns c ≤ limit

-- the part has columns, and would pass the limit with the visible character that starts the next
abbrev pub IsFull : ℕ → List TextUnit → List TextUnit → Type 0
IsFull limit part next = (c : ℕ) × (after : List TextUnit) × (next ≡ Visible c ∷ after)
    × (0 < units_width part) × (limit < units_width part + columns c)

-- each part but the last is full
abbrev pub AllPartsFull : ℕ → List (List TextUnit) → Type 0
AllPartsFull limit [] = ⊤
AllPartsFull limit (part ∷ []) = ⊤
AllPartsFull limit (part ∷ next ∷ rest) = IsFull limit part next × AllPartsFull limit (next ∷ rest)

-- the units are cut into parts directly before visible characters, and exactly where a part would
-- pass the limit
pub record AreBroken (limit : ℕ) (us : List TextUnit) (parts : List (List TextUnit)) : Type 0 where
  pub tiles : flat_map (λ part. part) parts ≡ us
  pub nonempty : All (λ part. part ≢ []) parts
  pub kept : All (IsKept limit) parts
  pub full : AllPartsFull limit parts

-- ---- the pieces of a word

-- the bytes of units
abbrev pub units_text : List TextUnit → List ℕ
units_text us = encode_utf8_all (flat_map characters us)

-- the pieces with these texts: whitespace and penalty stand at the last alone
abbrev pub pieces_with : List ℕ → List ℕ → List (List ℕ) → List WordText
pieces_with whitespace penalty [] = []
pieces_with whitespace penalty (text ∷ []) = piece text whitespace penalty ∷ []
pieces_with whitespace penalty (text ∷ next ∷ texts) =
    piece text [] [] ∷ pieces_with whitespace penalty (next ∷ texts)

-- a word is broken into these pieces; a law says that there is one such list
abbrev pub AreBrokenPieces : ℕ → WordText → List WordText → Type 0
AreBrokenPieces limit w pieces = (parts : List (List TextUnit))
    × AreBroken limit (units (chars w.word)) parts
    × (pieces ≡ pieces_with w.whitespace w.penalty (map units_text parts))

-- ---- the same, computed

-- a cut is due before the unit, where the part before it has `width` columns
abbrev pub is_due : ℕ → ℕ → TextUnit → Bool
is_due limit width (Visible c) = nat_lt 0 width && nat_lt limit (width + columns c)
is_due limit width (Sequence cs) = false

-- what a part that has `width` columns takes of the units that follow it, and the parts after it
abbrev pub parts_left : ℕ → ℕ → List TextUnit → List (List TextUnit)
parts_left limit width [] = [] ∷ []
parts_left limit width (u ∷ us) =
    if is_due limit width u then [] ∷ onto_first u (parts_left limit (unit_width u) us)
    else onto_first u (parts_left limit (width + unit_width u) us)

abbrev pub broken_units : ℕ → List TextUnit → List (List TextUnit)
broken_units limit [] = []
broken_units limit (u ∷ us) = parts_left limit 0 (u ∷ us)

-- the texts of the pieces of a text
abbrev pub broken_texts : ℕ → List ℕ → List (List ℕ)
broken_texts limit text = map units_text (broken_units limit (units (chars text)))

abbrev pub broken_pieces : ℕ → WordText → List WordText
broken_pieces limit w = pieces_with w.whitespace w.penalty (broken_texts limit w.word)

-- the words, each that is wider than the limit replaced by its pieces
abbrev pub broken_word : ℕ → WordText → List WordText
broken_word limit w = if nat_lt limit w.width then broken_pieces limit w else w ∷ []

abbrev pub broken_words : ℕ → List WordText → List WordText
broken_words limit words = flat_map (broken_word limit) words

-- ---- the pieces that an iterator over them has left

abbrev pub pieces_left : BreakApart → List WordText
pieces_left pieces = broken_pieces pieces.line_width (word_view pieces.rest)
