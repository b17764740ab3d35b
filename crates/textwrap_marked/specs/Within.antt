-- The text of which only the paragraphs at some lines are filled again.
use Rattle.std.specs.Prelude.{◌≡◌, ℕ, ◌+◌, ◌-◌, ◌&&◌, ◌||◌, Bool, true, false, nat_eq, nat_le, nat_lt, not}
use Rattle.std.specs.Prelude.{List, [], ◌∷◌, ◌++◌, drop, length}
use Rattle.std.specs.List.{starts_with}
use Rattle.textwrap_text.specs.LineEnding.{ending_bytes}
use Rattle.textwrap_marked_lines.specs.Blocks.{blocks, is_beside, stays}
use Rattle.textwrap_marked_lines.specs.Lines.{LineText, lines_of_text}
use Rattle.textwrap_marked.specs.Reflow.{IsOfBlock, byte_order_mark, filled_ending}
use Rattle.textwrap_marks.specs.declared.options.ReflowOptions.{ReflowOptions}
use Rattle.textwrap_marked.specs.declared.within.LineRange.{LineRange}

-- of the lines behind the first `start`, up to the line `end`, one is in the range
abbrev pub touches : LineRange → ℕ → ℕ → Bool
touches range start end = nat_lt start range.last && nat_le range.first end

-- the range, counted behind so many lines
abbrev pub range_behind : LineRange → ℕ → LineRange
range_behind range n = record { first = range.first - n; last = range.last - n }

module _ (options : ReflowOptions) (range : LineRange) (ending : List ℕ) where
  -- one block after the other, behind so many lines: those that have no line in the range stay
  abbrev pub AreOfBlocksWithin : ℕ → Bool → List (List LineText) → List ℕ → Type 0
  AreOfBlocksWithin start beside [] text = text ≡ []
  AreOfBlocksWithin start beside ([] ∷ blocks) text = AreOfBlocksWithin start beside blocks text
  AreOfBlocksWithin start beside ((first ∷ lines) ∷ blocks) text =
      let end = start + length (first ∷ lines) in
      (front : List ℕ) × (back : List ℕ)
      × IsOfBlock options ending
      (stays (beside || is_beside first blocks || not (touches range start end)) first) first
      (first ∷ lines) front
      × AreOfBlocksWithin end (is_beside first blocks) blocks back × (text ≡ front ++ back)

-- a text without a byte order mark
abbrev pub IsReflowedWithinFrom : ReflowOptions → LineRange → List ℕ → List ℕ → Type 0
IsReflowedWithinFrom options range text reflowed =
    AreOfBlocksWithin options range (ending_bytes (filled_ending options.ending text)) 0 false
    (blocks (lines_of_text options text)) reflowed

abbrev pub IsReflowedWithinBehind : Bool → ReflowOptions → LineRange → List ℕ → List ℕ → Type 0
IsReflowedWithinBehind true options range text reflowed =
    (rest : List ℕ) × IsReflowedWithinFrom options range (drop 3 text) rest
    × (reflowed ≡ byte_order_mark ++ rest)
IsReflowedWithinBehind false options range text reflowed =
    IsReflowedWithinFrom options range text reflowed

abbrev pub IsReflowedWithin : ReflowOptions → LineRange → List ℕ → List ℕ → Type 0
IsReflowedWithin options range text reflowed =
    IsReflowedWithinBehind (starts_with nat_eq text byte_order_mark) options range text reflowed
