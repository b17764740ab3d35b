-- Lines that are cut, and end in a placeholder.
use Rattle.std.specs.Prelude.{◌≡◌, ℕ, ◌+◌, ◌-◌, ◌<◌, ◌≤◌, Bool, true, false, not, ◌==◌, ◌&&◌, ◌||◌}
use Rattle.std.specs.Prelude.{◌⊎◌, List, [], ◌∷◌, ◌++◌, IsCharBoundary, chars, drop, length, map}
use Rattle.std.specs.Prelude.{nat_lt, slice_index, sum_by, take}
use Rattle.std.specs.List.{take_while}
use Rattle.textwrap_layout.specs.Paragraph.{Line, Built, Slice}
use Rattle.textwrap_layout.specs.Text.{HasWholeSequences}
use Rattle.textwrap_text.specs.Blanks.{is_blank}
use Rattle.textwrap_text.specs.Units.{columns, text_width, units, units_width, visible}
use Rattle.textwrap_display.specs.Justifying.{indent_len}
use Rattle.textwrap_styles.specs.Styles.{closing, sequences}
pub use Rattle.textwrap_styles.specs.Styles.{texts_of}

-- ---- whole words

-- whether blanks let a beginning of a line end after n bytes: it is empty, or it ends in no blank,
-- and a blank or the end of the line follows
abbrev pub can_end : List ℕ → ℕ → Bool
can_end line n =
    (n == 0) || (not (is_blank (slice_index line (n - 1)))
    && ((n == length line) || is_blank (slice_index line n)))

-- so a beginning may end there, if each escape sequence of it ends in it
abbrev pub CanEnd : List ℕ → ℕ → Type 0
CanEnd line n = (can_end line n ≡ true) × HasWholeSequences (take n line)

-- the first n bytes and the placeholder, each measured by itself, have room in the width
abbrev pub LeavesRoom : ℕ → List ℕ → List ℕ → ℕ → Type 0
LeavesRoom width placeholder line n = text_width (take n line) + text_width placeholder ≤ width

-- so many bytes of a line are kept where no word is cut: the longest beginning that may end there
-- and leaves room, or nothing
pub record IsKeptBeginning (width : ℕ) (placeholder line : List ℕ) (n : ℕ) : Type 0 where
  pub within : n ≤ length line
  pub ends : CanEnd line n
  pub room : (n ≡ 0) ⊎ LeavesRoom width placeholder line n
  pub longest : (m : ℕ) → CanEnd line m → LeavesRoom width placeholder line m → m ≤ n

-- ---- a word that is cut

-- the columns of the word that a text begins with: of its visible characters up to a blank
abbrev pub word_width : List ℕ → ℕ
word_width text = sum_by columns (take_while (λ c. not (is_blank c)) (visible (chars text)))

-- a word that begins after `start` bytes of a line may be cut after n: behind a character of it
-- that takes columns, and directly before another, so in no escape sequence
pub record CanCut (line : List ℕ) (start n : ℕ) : Type 0 where
  pub after : start ≤ n
  pub behind : text_width (take start line) < text_width (take n line)
  pub place : IsCharBoundary line n
  pub before : 0 < units_width (take 1 (units (chars (drop n line))))
  pub whole : HasWholeSequences (take n line)

-- the word is cut there, as late as leaves room, and if no place leaves room, the words before it
-- are kept alone
pub record IsCut (width : ℕ) (placeholder line : List ℕ) (words start n : ℕ) : Type 0 where
  pub cut : (n ≡ words) ⊎ (CanCut line start n × LeavesRoom width placeholder line n)
  pub latest : (m : ℕ) → CanCut line start m → LeavesRoom width placeholder line m → m ≤ n

-- the word is wider than the room that the placeholder leaves
abbrev pub is_too_wide : ℕ → List ℕ → List ℕ → ℕ → Bool
is_too_wide width placeholder line start =
    nat_lt (width - text_width placeholder) (word_width (drop start line))

-- so many bytes of a line are kept: whole words, and of the first word that is left out as much as
-- fits, if words may be cut and it is too wide
pub record IsKeptLength (breaks : Bool) (width : ℕ) (placeholder line : List ℕ) (n : ℕ) : Type 0 where
  pub words : ℕ
  pub start : ℕ
  pub kept : IsKeptBeginning width placeholder line words
  pub next : start ≡ words + indent_len (drop words line)
  pub whole : breaks && is_too_wide width placeholder line start ≡ false → n ≡ words
  pub cut : breaks && is_too_wide width placeholder line start ≡ true
      → IsCut width placeholder line words start n

-- ---- the lines

-- what is kept of the line, what ends the styles and the link that are open there, and the
-- placeholder
pub record IsShortened (breaks : Bool) (width : ℕ) (placeholder line : List ℕ) (short : Line) :
    Type 0 where
  pub len : ℕ
  pub kept : IsKeptLength breaks width placeholder line len
  pub is : let beginning = take len line in
      short ≡ Built (beginning ++ closing (sequences beginning) ++ placeholder)

-- so many lines, where there were more: the first ones as they are, and the one after them cut
pub record AreShortened (breaks : Bool) (most width : ℕ) (placeholder : List ℕ)
    (lines : List (List ℕ)) (short : List Line) : Type 0 where
  pub whole : List (List ℕ)
  pub line : List ℕ
  pub left_out : List (List ℕ)
  pub last : Line
  pub lines_are : lines ≡ whole ++ line ∷ left_out
  pub count : length whole + 1 ≡ most
  pub cut : IsShortened breaks width placeholder line last
  pub are : short ≡ map Slice whole ++ last ∷ []
