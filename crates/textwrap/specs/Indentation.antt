-- Indenting and dedenting.
use Rattle.std.specs.Prelude.{◌≡◌, ◌≢◌, ℕ, ◌≤◌, ◌⊎◌, Bool, ◌==◌, List, [], ◌∷◌, ◌++◌, length, drop}
use Rattle.std.specs.Prelude.{map, All, if◌then◌else◌, ⊤}
use Rattle.std.specs.Char.{is_whitespace}
use Rattle.std.specs.Io.{StartsWith}
use Rattle.std.specs.List.{flat_map, fold, join_with_byte, list_all, prefix_len}
use Rattle.std.specs.List.{take_while}
use Rattle.std.specs.Str.{chars, trim_end, encode_utf8_all}
use Rattle.std.specs.Str.Lines.{lines}
use Rattle.textwrap_text.specs.Lists.{last}
pub use Rattle.textwrap_text.specs.TextLines.{ended_parts}
use Rattle.textwrap_text.specs.LineEnding.{line_feed}

-- whitespace alone, or empty
abbrev pub is_blank_line : List ℕ → Bool
is_blank_line text = list_all is_whitespace (chars text)

-- ---- indenting

-- before whitespace alone, the prefix loses its own trailing whitespace
abbrev pub indent_of_part : List ℕ → List ℕ → List ℕ
indent_of_part prefix part = if is_blank_line part then trim_end prefix else prefix

abbrev pub indented_part : List ℕ → List ℕ → List ℕ
indented_part prefix part = indent_of_part prefix part ++ part

abbrev pub indented : List ℕ → List ℕ → List ℕ
indented prefix text = flat_map (indented_part prefix) (ended_parts text)

-- a part without the prefix: where what follows the prefix's own text is blank, it is that, and else
-- it is what follows the whole prefix
abbrev pub unindented_part : List ℕ → List ℕ → List ℕ
unindented_part prefix part =
    let rest = drop (length (trim_end prefix)) part in
    if is_blank_line rest then rest else drop (length prefix) part

abbrev pub HasNoLineFeed : List ℕ → Type 0
HasNoLineFeed text = All (λ c. c ≢ line_feed) text

-- the only line feed of the part is its last byte
abbrev pub EndsInLineFeed : List ℕ → Type 0
EndsInLineFeed part = (front : List ℕ) × HasNoLineFeed front × (part ≡ front ++ line_feed ∷ [])

-- each part ends in its line feed; the last may have none, if it is not empty
abbrev pub AreEnded : List (List ℕ) → Type 0
AreEnded [] = ⊤
AreEnded (part ∷ []) = EndsInLineFeed part ⊎ (HasNoLineFeed part × (part ≢ []))
AreEnded (part ∷ next ∷ parts) = EndsInLineFeed part × AreEnded (next ∷ parts)

pub record AreEndedParts (text : List ℕ) (parts : List (List ℕ)) : Type 0 where
  pub joined : flat_map (λ part. part) parts ≡ text
  pub ended : AreEnded parts

-- ---- dedenting

-- the whitespace that a line begins with, in characters
abbrev pub leading_whitespace : List ℕ → List ℕ
leading_whitespace line = take_while is_whitespace (chars line)

-- one of them is a prefix of the other
abbrev pub AreComparable : List ℕ → List ℕ → Type 0
AreComparable a b = StartsWith a b ⊎ StartsWith b a

-- the longest prefix of the first line's leading whitespace that is comparable with each later line
pub record IsMargin (first : List ℕ) (later : List (List ℕ)) (margin : List ℕ) : Type 0 where
  pub begins : StartsWith (leading_whitespace first) margin
  pub comparable : All (λ line. AreComparable margin (chars line)) later
  pub longest : (other : List ℕ) → StartsWith (leading_whitespace first) other
      → All (λ line. AreComparable other (chars line)) later → length other ≤ length margin

-- the lines from the first on that is not blank
abbrev pub lines_from_first : List ℕ → List (List ℕ)
lines_from_first text = drop (prefix_len is_blank_line (lines text)) (lines text)

abbrev pub IsMarginOfLines : List (List ℕ) → List ℕ → Type 0
IsMarginOfLines [] margin = margin ≡ []
IsMarginOfLines (first ∷ later) margin = IsMargin first later margin

abbrev pub IsMarginOf : List ℕ → List ℕ → Type 0
IsMarginOf text margin = IsMarginOfLines (lines_from_first text) margin

-- a margin up to the place where the line goes on otherwise
abbrev pub narrowed : List ℕ → List ℕ → List ℕ
narrowed [] line = []
narrowed (c ∷ margin) [] = c ∷ margin
narrowed (c ∷ margin) (d ∷ line) = if c == d then c ∷ narrowed margin line else []

abbrev pub margin_of_lines : List (List ℕ) → List ℕ
margin_of_lines [] = []
margin_of_lines (first ∷ later) =
    fold (λ margin line. narrowed margin (chars line)) (leading_whitespace first) later

-- the margin of a text, in characters
abbrev pub margin_of : List ℕ → List ℕ
margin_of text = margin_of_lines (lines_from_first text)

-- a blank line becomes empty, and any other loses the margin
abbrev pub without_margin : List ℕ → List ℕ → List ℕ
without_margin margin line =
    if is_blank_line line then [] else encode_utf8_all (drop (length margin) (chars line))

abbrev pub dedented : List ℕ → List ℕ
dedented text =
    join_with_byte line_feed (map (without_margin (margin_of text)) (lines text))
    ++ (if last text == line_feed then line_feed ∷ [] else [])
