-- The widest of some words.
use Rattle.std.specs.Prelude.{ℕ, ◌+◌, max, length, List, [], ◌∷◌}
use Rattle.textwrap_words.specs.{Words.WordText, declared.pieces.Piece.Piece}

-- the columns of the widest word with its penalty, 0 where there is no word
abbrev pub widest_of_words : List WordText → ℕ
widest_of_words [] = 0
widest_of_words (w ∷ ws) = max (w.width + length w.penalty) (widest_of_words ws)

-- the same of words without penalties, by where they stand
abbrev pub widest_place : List Piece → ℕ
widest_place [] = 0
widest_place (p ∷ ps) = max p.width (widest_place ps)
