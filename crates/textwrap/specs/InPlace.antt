-- Filling in place.
use Rattle.std.specs.Prelude.{◌≡◌, ℕ, ◌+◌, ◌-◌, List, [], ◌∷◌, ◌++◌, length, take, slice_index, set}
use Rattle.std.specs.Prelude.{EachIndex, ◌⊎◌}
use Rattle.std.specs.List.{flat_map}
use Rattle.textwrap_text.specs.Blanks.{blank}
use Rattle.textwrap_base.specs.Division.{IsGreedy, Fits}
use Rattle.textwrap_words.specs.Words.{WordText, sizes_of, tiled, words_of}
use Rattle.textwrap_text.specs.LineEnding.{ending_bytes, join_with, line_feed, paragraphs_of}
use Rattle.textwrap_text.specs.declared.line_ending.LineEnding.TheVariants.{LF}

-- the texts of a part's lines, where each but the last leaves its last byte to a line feed
abbrev pub broken_lines : List (List WordText) → List (List ℕ)
broken_lines [] = []
broken_lines (line ∷ []) = tiled line ∷ []
broken_lines (line ∷ next ∷ lines) =
    take (length (tiled line) - 1) (tiled line) ∷ broken_lines (next ∷ lines)

-- the words of each part are divided greedily at the width
abbrev pub AreDividedAt : ℕ → List (List ℕ) → List (List (List WordText)) → Type 0
AreDividedAt width [] divisions = divisions ≡ []
AreDividedAt width (part ∷ parts) [] = ⊥
AreDividedAt width (part ∷ parts) (division ∷ divisions) =
    IsGreedy sizes_of (width ∷ []) (words_of part) division × AreDividedAt width parts divisions

-- the lines of the parts between line feeds, in a row, with a line feed between each two
abbrev pub IsFilledInPlace : ℕ → List ℕ → List ℕ → Type 0
IsFilledInPlace width text filled =
    (divisions : List (List (List WordText)))
    × AreDividedAt width (paragraphs_of LF text) divisions
    × (filled ≡ join_with (ending_bytes LF) (flat_map broken_lines divisions))

-- each byte is as it was, or was a blank and is a line feed
abbrev pub OnlyBlanksChange : List ℕ → List ℕ → Type 0
OnlyBlanksChange old new =
    EachIndex old (λ i. (slice_index new i ≡ slice_index old i)
    ⊎ ((slice_index old i ≡ blank) × (slice_index new i ≡ line_feed)))

-- ---- the places of the line feeds

-- all words of the part fit one line
abbrev pub FitsOneLine : ℕ → List ℕ → Type 0
FitsOneLine width part = Fits sizes_of width (words_of part)

-- the offset of the last byte of each line of a part but the last, where the first begins at
-- `start`
abbrev pub breaks_of : ℕ → List (List WordText) → List ℕ
breaks_of start [] = []
breaks_of start (line ∷ []) = []
breaks_of start (line ∷ next ∷ lines) =
    (start + length (tiled line) - 1) ∷ breaks_of (start + length (tiled line)) (next ∷ lines)

-- the same for all parts, with a line feed between each two
abbrev pub breaks_from : ℕ → List (List (List WordText)) → List ℕ
breaks_from start [] = []
breaks_from start (division ∷ divisions) =
    breaks_of start division
    ++ breaks_from (start + length (tiled (flat_map (λ line. line) division)) + 1) divisions

-- the bytes with a line feed in each of these places
abbrev pub with_line_feeds : List ℕ → List ℕ → List ℕ
with_line_feeds [] bytes = bytes
with_line_feeds (place ∷ places) bytes = with_line_feeds places (set bytes place line_feed)
