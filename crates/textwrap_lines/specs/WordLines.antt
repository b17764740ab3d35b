-- Lines by first fit that are found word by word.
use Rattle.std.specs.Prelude.{◌≡◌, ℕ, ◌+◌, ◌==◌, Bool, true, List, ◌++◌, length}
use Rattle.textwrap_base.specs.Division.{open_width}
use Rattle.textwrap_base.proofs.Division.Grown.{grown}
use Rattle.textwrap_words.specs.Words.{WordText, sizes_of, tiled}
use Rattle.textwrap_layout.proofs.Text.Sinks.{HasTaken}
use Rattle.textwrap_layout.specs.Options.{Settings}
use Rattle.textwrap_layout.specs.Paragraph.{later_width, line_from, parts_from, parts_of}
use Rattle.textwrap_layout.specs.Places.{CutLine, cut_lines}
use Rattle.textwrap_lines.specs.declared.word_lines.WordLine.{WordLine}

abbrev pub with_word : WordLine → WordText → WordLine
with_word line w = record line { columns = line.columns + (w.width + length w.whitespace) }

-- the line behind this one, before it takes a word
abbrev pub after_line : ℕ → WordLine → List WordText → WordLine
after_line width line held = record {
  start = line.start + length (tiled held);
  width = width;
  is_later = true;
  columns = 0;
}

-- a line holds words, and these are all their pieces
pub record AreOn (line : WordLine) (held pieces : List WordText) : Type 0 where
  pub columns : line.columns ≡ open_width sizes_of pieces
  pub tiles : tiled held ≡ tiled pieces
  pub some : (length held == 0) ≡ (length pieces == 0)
  pub same : (settings : Settings) (is_later : Bool)
      → line_from (parts_of settings is_later held) ≡ line_from (parts_of settings is_later pieces)

-- the lines of pieces that are left, where these are on the line
abbrev pub lines_onward : Settings → WordLine → List WordText → List WordText → List CutLine
lines_onward settings line pieces left =
    cut_lines line.start (parts_from settings line.is_later
    (grown sizes_of (later_width settings) line.width left pieces))

-- where some pieces come, what is taken and what the line holds go on to these: whatever pieces are on
-- the line, and whatever others are left
abbrev pub GoesOnBehind : {S : Type 0} → (S → S → ℕ → List CutLine → Type 0) → Settings
    → WordLine → List WordText → S → List WordText → WordLine → List WordText → S → Type 0
GoesOnBehind {S = S} Holds settings line held lines come next holding after =
    (pieces : List WordText) → AreOn line held pieces
    → (on : List WordText) × AreOn next holding on
    × ((all : List CutLine) (first : S) (left : List WordText)
    → HasTaken Holds all first lines (lines_onward settings line pieces (come ++ left))
    → HasTaken Holds all first after (lines_onward settings next on left))
