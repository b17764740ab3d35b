-- What is reported of words and pieces, and the offsets that a line may be cut at.
use Rattle.std.specs.Prelude.{ℕ, ◌+◌, ◌<◌, ◌==◌, List, [], ◌∷◌, length, IsCharBoundary, ⊤}
use Rattle.std.specs.Prelude.{if◌then◌else◌}
use Rattle.textwrap_more_calls.specs.declared.pieces.TextwrapPiece.{TextwrapPiece}
use Rattle.textwrap_words.specs.{Cuts.AreNext, Words.WordText}

-- where words stand, one after another, the first of them at the place
abbrev pub piece_places : ℕ → List WordText → List TextwrapPiece
piece_places at [] = []
piece_places at (w ∷ ws) =
    record {
      offset = at;
      len = length w.word;
      whitespace_len = length w.whitespace;
      penalty_len = length w.penalty;
      width = w.width;
    }
    ∷ piece_places (at + length w.word + length w.whitespace) ws

-- an offset past the last one, where a character ends
abbrev pub IsNextOffset : List ℕ → ℕ → ℕ → Type 0
IsNextOffset text last offset = (last < offset) × IsCharBoundary text offset

-- the offsets increase, and are character boundaries of the text
abbrev pub AreOffsets : List ℕ → List ℕ → Type 0
AreOffsets text [] = ⊤
AreOffsets text (offset ∷ offsets) =
    IsCharBoundary text offset × AreNext (IsNextOffset text) offsets offset

-- the offsets that are left when a place is reached: without the first, if it is this place
abbrev pub offsets_past : ℕ → List ℕ → List ℕ
offsets_past place [] = []
offsets_past place (offset ∷ offsets) =
    if offset == place then offsets else offset ∷ offsets
