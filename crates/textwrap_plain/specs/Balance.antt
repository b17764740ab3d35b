-- The least width at which first fit takes no more lines of a text.
use Rattle.std.specs.List.{flat_map}
use Rattle.std.specs.Prelude.{◌≡◌, ℕ, ◌+◌, ◌≤◌, ◌⊎◌, max, List, [], ◌∷◌, All, length}
use Rattle.textwrap_base.specs.Division.{closed_width}
use Rattle.textwrap_layout.specs.{Options.Settings, Paragraph.Line, Text.AreTextLines}
use Rattle.textwrap_plain.specs.Options.{DividesFrom, split_by_points}
use Rattle.textwrap_text.specs.{LineEnding.paragraphs_of, Units.text_width}
use Rattle.textwrap_words.specs.{Words.WordText, Words.sizes_of, WrapAlgorithms.ByFirstFit}

abbrev pub at_width : Settings → ℕ → Settings
at_width settings width = record settings { width = width }

-- the columns of the wider of the two indents
abbrev pub wider_indent : Settings → ℕ
wider_indent settings =
    max (text_width settings.initial_indent) (text_width settings.subsequent_indent)

-- a text by its settings, the words of a line, and the points of a word
module _ (settings : Settings) (words : List ℕ → List WordText) (points : List ℕ → List ℕ)
    (text : List ℕ) where
  -- these are its lines by first fit at a width
  abbrev pub AreFirstFitAt : ℕ → List Line → Type 0
  AreFirstFitAt width lines =
      let settings = at_width settings width in
      AreTextLines settings (DividesFrom words points ByFirstFit settings) text lines

  -- the pieces of its words, which are split but not broken
  abbrev pub whole_pieces : List WordText
  whole_pieces = flat_map (λ paragraph. split_by_points points (words paragraph))
      (paragraphs_of settings.line_ending text)

  -- the wider indent has room on a line, and so has each piece after it, with its penalty
  pub record HasRoom (width : ℕ) : Type 0 where
    pub indent : wider_indent settings ≤ width
    pub pieces : All (λ w. wider_indent settings + closed_width sizes_of (w ∷ []) ≤ width)
        whole_pieces

  -- it takes no more lines at this width than at that of the settings
  abbrev pub TakesNoMoreLines : ℕ → Type 0
  TakesNoMoreLines width =
      (lines : List Line) × (others : List Line) × AreFirstFitAt width lines
      × AreFirstFitAt settings.width others × (length lines ≤ length others)

  pub record IsWideEnough (width : ℕ) : Type 0 where
    pub within : width ≤ settings.width
    pub room : HasRoom width
    pub lines : TakesNoMoreLines width

  -- the least width that is wide enough, or that of the settings where some piece has no room at it
  pub record IsBalanced (width : ℕ) : Type 0 where
    pub is : IsWideEnough width ⊎ ((width ≡ settings.width) × ¬ HasRoom settings.width)
    pub least : (other : ℕ) → IsWideEnough other → width ≤ other

  -- these are its lines by first fit at that width
  abbrev pub AreBalanced : List Line → Type 0
  AreBalanced lines = (width : ℕ) × IsBalanced width × AreFirstFitAt width lines

-- ---- as it is found

module _ (settings : Settings) (words : List ℕ → List WordText) (points : List ℕ → List ℕ)
    (text : List ℕ) where
  -- it takes so many lines at a width
  abbrev pub TakesLines : ℕ → ℕ → Type 0
  TakesLines width count =
      (lines : List Line) × AreFirstFitAt settings words points text width lines
      × (length lines ≡ count)
