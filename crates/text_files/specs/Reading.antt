-- What is read of the text of hunks: the first byte of a line says what it is.
use Rattle.std.specs.Prelude.{ℕ, ◌-◌, ◌==◌, Bool, true, false, List, [], ◌∷◌, drop, length, map}
use Rattle.std.specs.Prelude.{if◌then◌else◌, slice_index, slice_index_or, take}
use Rattle.std.specs.List.{slice_split}
use Rattle.std.specs.Str.Parse.{digits_value}
use Rattle.text_files.specs.Differences.{HunkText, SignedText, signed_text, text_lines}
use Rattle.text_files.specs.declared.differences.Sign.{Sign}
use Rattle.text_files.specs.declared.differences.Sign.TheVariants.{Kept, Removed, Added}

-- how many lines stand before a range, such as 3,2 or 3: of no lines, its number is that of the line
-- before; how many they are is not said of one
abbrev pub range_start : List ℕ → ℕ
range_start range =
    let numbers = map (digits_value 10) (slice_split (λ c. c == 44) range) in
    let first = slice_index_or numbers 0 0 in
    if slice_index_or numbers 1 1 == 0 then first else first - 1

-- the same of the range that is this word of a head, behind its sign
abbrev pub head_start : List ℕ → ℕ → ℕ
head_start head at = range_start (drop 1 (slice_index_or (slice_split (λ c. c == 32) head) at []))

-- the hunks behind a place, the lines before them, and whether these follow a line without a line feed
pub record ReadText : Type 0 where
  pub lacks : Bool
  pub lines : List SignedText
  pub hunks : List HunkText

abbrev pub read_text : Bool → List SignedText → List HunkText → ReadText
read_text lacks lines hunks = record { lacks = lacks; lines = lines; hunks = hunks }

abbrev pub read_sign : ℕ → Sign
read_sign c = if c == 43 then Added else if c == 45 then Removed else Kept

-- the line behind a sign, and without its line feed, if it lacks one
abbrev pub read_line : Bool → List ℕ → SignedText
read_line lacks line =
    signed_text (read_sign (slice_index line 0))
    (if lacks then take (length line - 2) (drop 1 line) else drop 1 line)

-- one line more in front: behind `@` the head of a hunk, behind a backslash that the line before has no
-- line feed
abbrev pub with_line : List ℕ → ReadText → ReadText
with_line line read =
    if slice_index line 0 == 64 then
    read_text false [] (record {
      old_start = head_start line 1;
      new_start = head_start line 2;
      lines = read.lines;
    } ∷ read.hunks)
    else if slice_index line 0 == 92 then read_text true read.lines read.hunks
    else read_text false (read_line read.lacks line ∷ read.lines) read.hunks

abbrev pub read_lines : List (List ℕ) → ReadText
read_lines [] = read_text false [] []
read_lines (line ∷ lines) = with_line line (read_lines lines)

abbrev pub hunks_of : List ℕ → List HunkText
hunks_of text = (read_lines (text_lines text)).hunks
