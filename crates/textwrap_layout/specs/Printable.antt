-- The lines of first fit that a text is cut into wherever a test of its places says so.
use Rattle.std.specs.Prelude.{◌≡◌, ℕ, ◌-◌, ◌<◌, ◌≤◌, Bool, true, false, ◌||◌, List, ◌∷◌, ◌++◌, []}
use Rattle.std.specs.Prelude.{length, slice_index, slice_range, if◌then◌else◌}
use Rattle.std.specs.Char.{is_ascii_alphanumeric}
use Rattle.textwrap_base.specs.Division.{Fits, closed_width}
use Rattle.textwrap_text.specs.Blanks.{is_blank, without_final_blanks}
use Rattle.textwrap_words.specs.PieceCuts.{is_point, pieces_from}
use Rattle.textwrap_words.specs.WordSplitters.{Splitter}
use Rattle.textwrap_words.specs.Words.{WordText, sizes_of}
use Rattle.textwrap_layout.specs.Paragraph.{covered}

-- ---- where a text is cut

-- between its words: no word but the first begins with a blank
abbrev pub BeforeOthers : (ℕ → Bool) → List ℕ → Type 0
BeforeOthers test text = (place : ℕ) → 0 < place → place < length text → test place ≡ true
    → is_blank (slice_index text place) ≡ false

-- and none but the last ends in a letter or a digit
abbrev pub AfterOthers : (ℕ → Bool) → List ℕ → Type 0
AfterOthers test text = (place : ℕ) → 0 < place → place < length text → test place ≡ true
    → is_ascii_alphanumeric (slice_index text (place - 1)) ≡ false

-- whether a text is cut there: between two words, as a test of places says, or at a point of the
-- splitter
abbrev pub is_cut_by : (ℕ → Bool) → Splitter → List ℕ → ℕ → Bool
is_cut_by cuts splitter text place = cuts place || is_point splitter text place

-- the text is cut at no place after the one, up to the other
abbrev pub NoCutBetween : (ℕ → Bool) → ℕ → ℕ → Type 0
NoCutBetween test from to = (k : ℕ) → from < k → k ≤ to → test k ≡ false

-- ---- pieces and lines

-- a part of a text, or that without its final blanks
abbrev pub line_slice : List ℕ → ℕ → ℕ → Bool → List ℕ
line_slice text at end keeps_blanks =
    if keeps_blanks then slice_range text at end
    else without_final_blanks (slice_range text at end)

-- the pieces from the one place up to the other are the first line of first fit: the first of the
-- others has no room. If a word goes on after the line, it keeps its blanks there. Words are broken
-- past `limit` columns
pub record IsFirstLine (test : ℕ → Bool) (limit width : ℕ) (text : List ℕ) (at end : ℕ)
    (goes_on : Bool) : Type 0 where
  pub line : List WordText
  pub some : 0 < length line
  pub are : pieces_from test limit text at ≡ line ++ pieces_from test limit text end
  pub covers : covered line ≡ line_slice text at end goes_on
  pub fits : Fits sizes_of width line
  pub full : (w : WordText) (ws : List WordText) → pieces_from test limit text end ≡ w ∷ ws
      → width < closed_width sizes_of (line ++ w ∷ [])
