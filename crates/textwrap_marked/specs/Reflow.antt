-- A text whose paragraphs are filled again.
use Rattle.std.specs.Prelude.{◌≡◌, ℕ, ◌-◌, ◌==◌, ◌&&◌, ◌||◌, Bool, true, false, nat_eq, nat_lt}
use Rattle.std.specs.Prelude.{codes, List, [], ◌∷◌, ◌++◌, drop, map}
use Rattle.std.specs.Prelude.{if◌then◌else◌, Option, Some, None, length}
use Rattle.std.specs.List.{ends_with, flat_map, slice_split, starts_with}
use Rattle.textwrap_base.specs.Algorithms as base
use Rattle.textwrap_words.specs.Words.{WordText, sizes_of, word_of}
use Rattle.textwrap_text.specs.LineEnding.{ending_bytes}
use Rattle.textwrap_display.specs.JustifiedText.{all_but_last}
use Rattle.textwrap_display.specs.Justifying.{justified}
use Rattle.textwrap_layout.specs.Paragraph.{covered, line_bytes}
use Rattle.textwrap_text.specs.declared.line_ending.LineEnding.{LineEnding}
use Rattle.textwrap_text.specs.declared.line_ending.LineEnding.TheVariants.{CRLF, LF}
use Rattle.textwrap_marked_lines.specs.Blocks.{blocks, is_beside, stays}
use Rattle.textwrap_marked_lines.specs.Columns.{text_columns}
use Rattle.textwrap_marked_lines.specs.Lines.{LineText, lines_of_text, without_returns}
use Rattle.textwrap_marked.specs.Pieces.{pieces, words_of_lines}
use Rattle.textwrap_marks.specs.Signs.{last_white}
use Rattle.textwrap_marks.specs.declared.options.Algorithm.{Algorithm}
use Rattle.textwrap_marks.specs.declared.options.Algorithm.TheVariants.{FirstFit, LeastCost}
use Rattle.textwrap_marks.specs.declared.options.ReflowOptions.{ReflowOptions}

abbrev pub dividing_algorithm : Algorithm → base.Algorithm
dividing_algorithm FirstFit = base.ByFirstFit
dividing_algorithm (LeastCost penalties) = base.ByOptimalFit penalties

-- ---- lines that stay

-- an ending where a line feed was
abbrev pub ending_if : Bool → List ℕ → List ℕ
ending_if fed ending = if fed then ending else []

-- a line as it is, but for its ending, if another one is asked for
abbrev pub kept_line : Option LineEnding → LineText → List ℕ
kept_line None line = line.raw ++ ending_if line.fed (codes "\n")
kept_line (Some ending) line = without_returns line.raw ++ ending_if line.fed (ending_bytes ending)

abbrev pub kept_text : ReflowOptions → List LineText → List ℕ
kept_text options lines = flat_map (kept_line options.ending) lines

-- ---- a paragraph, filled

-- a line, with its gaps widened up to so many columns, if that is asked for
abbrev pub line_text : Bool → ℕ → List WordText → List ℕ
line_text justify room line =
    if justify then line_bytes (justified room (covered line)) else covered line

-- the lines of a division, of which the later ones have other room than the first: where lines are
-- justified, all but the last are
abbrev pub line_texts : Bool → ℕ → ℕ → List (List WordText) → List (List ℕ)
line_texts justify room later =
    all_but_last (line_text justify room) (line_text justify later) covered

-- lines: the first behind its prefix, each later one behind an ending and the hanging form
abbrev pub printed : List ℕ → List ℕ → List ℕ → List (List ℕ) → List ℕ
printed ending first later [] = []
printed ending first later (line ∷ lines) =
    (first ++ line) ++ flat_map (λ l. (ending ++ later) ++ l) lines

-- the white of a hard break
abbrev pub break_white : LineText → List ℕ
break_white line =
    if ends_with nat_eq (last_white line.words) (codes "  ") then last_white line.words else []

-- behind each of these lines that white, and the ending
abbrev pub filled_ends : List ℕ → List LineText → List ℕ
filled_ends ending lines = flat_map (λ l. break_white l ++ ending_if l.fed ending) lines

-- what stands behind the last of them
abbrev pub filled_end : List ℕ → List LineText → List ℕ
filled_end ending lines = filled_ends ending (drop (length lines - 1) lines)

-- what a prefix leaves of the width
abbrev pub room_behind : ReflowOptions → List ℕ → ℕ
room_behind options prefix = options.width - text_columns prefix

-- what the prefixes of a paragraph leave of it, the first line's and the later ones'
abbrev pub first_room : ReflowOptions → LineText → ℕ
first_room options first = room_behind options first.prefix

abbrev pub later_room : ReflowOptions → LineText → ℕ
later_room options first = room_behind options first.hanging

-- the lines of a paragraph, as they are printed
abbrev pub shown_lines : ReflowOptions → LineText → List (List WordText) → List (List ℕ)
shown_lines options first division =
    line_texts options.justify (first_room options first) (later_room options first) division

module _ (options : ReflowOptions) (ending : List ℕ) where
  -- the pieces of a paragraph are divided into lines of what its prefixes leave of the width
  abbrev pub IsFilled : LineText → List LineText → List ℕ → Type 0
  IsFilled first lines text =
      (division : List (List WordText))
      × base.IsDividedBy (dividing_algorithm options.algorithm) sizes_of
      (first_room options first ∷ later_room options first ∷ [])
      (map word_of (pieces options first.starred (words_of_lines lines))) division
      × (text ≡ printed ending first.prefix first.hanging (shown_lines options first division)
      ++ filled_end ending lines)

  -- the paragraph of these lines
  abbrev pub AreFilled : List LineText → List ℕ → Type 0
  AreFilled [] text = text ≡ []
  AreFilled (first ∷ lines) text = IsFilled first (first ∷ lines) text

  -- a block of this first line stays, or is filled
  abbrev pub IsOfBlock : Bool → LineText → List LineText → List ℕ → Type 0
  IsOfBlock true first lines text = text ≡ kept_text options lines
  IsOfBlock false first lines text = IsFilled first lines text

  -- the block of these lines, which may stand beside another field
  abbrev pub IsOfLines : Bool → List LineText → List ℕ → Type 0
  IsOfLines beside [] text = text ≡ []
  IsOfLines beside (first ∷ lines) text = IsOfBlock (stays beside first) first (first ∷ lines) text

  -- one block after the other, where a field stands beside the first, if it is one
  abbrev pub AreOfBlocks : Bool → List (List LineText) → List ℕ → Type 0
  AreOfBlocks beside [] text = text ≡ []
  AreOfBlocks beside ([] ∷ blocks) text = AreOfBlocks beside blocks text
  AreOfBlocks beside ((first ∷ lines) ∷ blocks) text =
      (front : List ℕ) × (back : List ℕ)
      × IsOfBlock (stays (beside || is_beside first blocks) first) first (first ∷ lines) front
      × AreOfBlocks (is_beside first blocks) blocks back × (text ≡ front ++ back)

-- ---- the whole text

-- how a line ends, if a line feed follows it
abbrev pub ending_of_line : List ℕ → Bool → LineEnding
ending_of_line line fed = if fed && ends_with nat_eq line (codes "\r") then CRLF else LF

abbrev pub first_ending : List (List ℕ) → LineEnding
first_ending [] = LF
first_ending (line ∷ lines) = ending_of_line line (nat_lt 0 (length lines))

-- the ending of filled lines: the one that is asked for, else that of the first line
abbrev pub filled_ending : Option LineEnding → List ℕ → LineEnding
filled_ending (Some ending) text = ending
filled_ending None text = first_ending (slice_split (λ c. c == 10) text)

abbrev pub byte_order_mark : List ℕ
byte_order_mark = 0xEF ∷ 0xBB ∷ 0xBF ∷ []

-- a text without a byte order mark
abbrev pub IsReflowedFrom : ReflowOptions → List ℕ → List ℕ → Type 0
IsReflowedFrom options text reflowed =
    AreOfBlocks options (ending_bytes (filled_ending options.ending text)) false
    (blocks (lines_of_text options text)) reflowed

-- a byte order mark stays, if there is one, and what follows it is reflowed
abbrev pub IsReflowedBehind : Bool → ReflowOptions → List ℕ → List ℕ → Type 0
IsReflowedBehind true options text reflowed =
    (rest : List ℕ) × IsReflowedFrom options (drop 3 text) rest × (reflowed ≡ byte_order_mark ++ rest)
IsReflowedBehind false options text reflowed = IsReflowedFrom options text reflowed

abbrev pub IsReflowed : ReflowOptions → List ℕ → List ℕ → Type 0
IsReflowed options text reflowed =
    IsReflowedBehind (starts_with nat_eq text byte_order_mark) options text reflowed
