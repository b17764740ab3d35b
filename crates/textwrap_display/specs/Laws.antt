-- The statements of the laws, each under a name that a caller can cite.
use Rattle.std.specs.Prelude.{◌≡◌, ◌≢◌, ℕ, ◌+◌, ◌-◌, ◌*◌, ◌/◌, ◌%◌, ◌<◌, ◌≤◌, ◌==◌, List, [], ◌∷◌}
use Rattle.std.specs.Prelude.{◌++◌, All, Bool, filter, not}
use Rattle.std.specs.Prelude.{IsUtf8, length, map, replicate, slice_index_or, sum, sum_by, take}
use Rattle.std.specs.List.{AllZip, slice_split, zip}
use Rattle.textwrap.specs.Columns.{blanks}
use Rattle.textwrap_display.specs.Alignment.{aligned}
use Rattle.textwrap_display.specs.Fitting.{fitting_widths, widest_line, widest_word}
use Rattle.textwrap_display.specs.Justifying.{gaps, indent_len, justified, line_words}
use Rattle.textwrap_display.specs.Justifying.{widened_words}
use Rattle.textwrap_display.specs.Shortening.{IsKeptLength, IsKeptBeginning, IsShortened}
use Rattle.textwrap_display.specs.Tables.{group_rows, height, RowGaps, Shape}
use Rattle.textwrap_display.specs.Tabs.{expanded_tabs, last_line, tab}
use Rattle.textwrap_display.specs.declared.alignment.Alignment.{Alignment}
use Rattle.textwrap_display.specs.declared.needs.Need.{Need}
use Rattle.textwrap_text.specs.LineEnding.{join_with, line_feed}
use Rattle.textwrap_layout.specs.Text.{HasWholeSequences}
use Rattle.textwrap_text.specs.Blanks.{is_blank}
use Rattle.textwrap_text.specs.Units.{text_width}
use Rattle.textwrap_words.specs.Words.{words_of}
use Rattle.textwrap_layout.specs.Paragraph.{Line, line_bytes}
use Rattle.textwrap_styles.specs.Penned.{PennedCharacter, penned_text, plain_rendition}
use Rattle.textwrap_styles.specs.Styled.{EndsPlain, IsWholeText}
use Rattle.textwrap_styles.specs.Styles.{closing, sequences}
pub use Rattle.textwrap_styles.specs.Laws.{CarriedLinesAreAsWide, CarriedLinesAreShort}
pub use Rattle.textwrap_styles.specs.Laws.{CarriedLinesEndPlain, CarriedLinesKeepPens}
pub use Rattle.textwrap_styles.specs.Laws.{CarriedLinesShowTheirText, EndsAreKnown}
pub use Rattle.textwrap_styles.specs.Laws.{NumbersAreKnown, PlainLinesStay, StylesAreFew}
pub use Rattle.textwrap_styles.specs.Laws.{StylesAreSetAnew, StylesGiveThePen}
pub use Rattle.textwrap_styles.specs.Laws.{WholeLinesMayCarry}

-- a line that is not wider than the width is as wide once it is aligned
abbrev pub AlignedLinesAreAsWide : Type 0
AlignedLinesAreAsWide =
    (alignment : Alignment) (width : ℕ) (line : List ℕ)
    → IsUtf8 line → HasWholeSequences line → text_width line ≤ width
    → text_width (line_bytes (aligned alignment width line)) ≡ width

-- and so is one that is justified, if it has a gap, and each escape sequence of a word ends in that
-- word
abbrev pub JustifiedLinesAreAsWide : Type 0
JustifiedLinesAreAsWide =
    (width : ℕ) (line : List ℕ)
    → IsUtf8 line → All (λ w. HasWholeSequences w.word) (line_words line)
    → gaps line ≢ 0 → text_width line ≤ width
    → text_width (line_bytes (justified width line)) ≡ width

-- a justified line begins with the same blanks and has the same words, in their order; each but the
-- last has the same number of blanks more after it, and the first ones have one more than that
pub record JustifiedLineKeepsWords (width : ℕ) (line new : List ℕ) : Type 0 where
  pub indent : take (indent_len new) new ≡ take (indent_len line) line
  pub words : map (λ w. w.word) (line_words new) ≡ map (λ w. w.word) (line_words line)
  pub spaces : let spare = width - text_width line in line_words new
      ≡ widened_words (spare / gaps line) (spare % gaps line) (line_words line)

abbrev pub JustifiedLinesKeepWords : Type 0
JustifiedLinesKeepWords =
    (width : ℕ) (line : List ℕ) → JustifiedLineKeepsWords width line (line_bytes (justified width line))

-- what is shown, but for blanks
abbrev pub without_blanks : List PennedCharacter → List PennedCharacter
without_blanks shown = filter (λ c. not (is_blank c.character)) shown

-- a justified line shows the same but for blanks, with the same pens and links, if each escape sequence
-- of a word ends in that word
abbrev pub JustifiedLinesKeepPens : Type 0
JustifiedLinesKeepPens =
    (width : ℕ) (line : List ℕ) → IsUtf8 line
    → All (λ w. HasWholeSequences w.word) (line_words line)
    → without_blanks (penned_text plain_rendition (line_bytes (justified width line)))
    ≡ without_blanks (penned_text plain_rendition line)

-- ---- shortened lines

-- only one number of bytes may be kept of a line
abbrev pub KeptBeginningsAreUnique : Type 0
KeptBeginningsAreUnique =
    (breaks : Bool) (width : ℕ) (placeholder line : List ℕ) (first second : ℕ)
    → IsKeptLength breaks width placeholder line first
    → IsKeptLength breaks width placeholder line second
    → first ≡ second

-- a shortened line takes no more than the width, if the placeholder alone does not
abbrev pub ShortenedLinesKeepToWidth : Type 0
ShortenedLinesKeepToWidth =
    (breaks : Bool) (width : ℕ) (placeholder line : List ℕ) (short : Line)
    → IsUtf8 line → text_width placeholder ≤ width
    → IsShortened breaks width placeholder line short → text_width (line_bytes short) ≤ width

-- before the placeholder the pen is plain and no link is open
abbrev pub ShortenedLinesAreClosed : Type 0
ShortenedLinesAreClosed =
    (breaks : Bool) (width : ℕ) (placeholder line : List ℕ) (short : Line) → IsUtf8 line
    → (is : IsShortened breaks width placeholder line short)
    → let kept = take is.len line in EndsPlain (kept ++ closing (sequences kept))

-- what is kept shows what the line shows first, with the same pens and links, and behind it the
-- placeholder shows what it shows by itself
abbrev pub ShortenedLinesKeepPens : Type 0
ShortenedLinesKeepPens =
    (breaks : Bool) (width : ℕ) (placeholder line : List ℕ) (short : Line) → IsUtf8 line
    → (is : IsShortened breaks width placeholder line short)
    → let kept = penned_text plain_rendition (take is.len line) in
    (take (length kept) (penned_text plain_rendition line) ≡ kept)
    × (penned_text plain_rendition (line_bytes short)
    ≡ kept ++ penned_text plain_rendition placeholder)

-- the texts of a line's words
abbrev pub word_texts : List ℕ → List (List ℕ)
word_texts line = map (λ w. w.word) (words_of line)

-- where no word is cut, the words of what is kept are the first words of the line
abbrev pub KeptWordsAreTheFirst : Type 0
KeptWordsAreTheFirst =
    (width : ℕ) (placeholder line : List ℕ) (n : ℕ) → IsKeptBeginning width placeholder line n
    → let kept = word_texts (take n line) in take (length kept) (word_texts line) ≡ kept

-- ---- tables

-- the escape sequences of each line of each cell end in it, and it is no wider than its column
abbrev pub KeepToColumns : List Shape → List (List (List ℕ)) → Type 0
KeepToColumns columns cells =
    All (λ p. All (λ line. IsWholeText line × (text_width line ≤ p.0.width)) p.1)
    (zip columns cells)

-- how much of the screen the gaps and all columns take together
abbrev pub row_width : RowGaps → List Shape → ℕ
row_width gaps columns =
    text_width gaps.left + sum_by (λ column. column.width) columns
    + (length columns - 1) * text_width gaps.middle + text_width gaps.right

-- each row takes exactly so much
abbrev pub TableRowsAreEven : Type 0
TableRowsAreEven =
    (gaps : RowGaps) (columns : List Shape) (cells : List (List (List ℕ)))
    → IsWholeText gaps.left → IsWholeText gaps.middle → KeepToColumns columns cells
    → All (λ row. text_width row ≡ row_width gaps columns) (group_rows gaps columns cells)

-- a row that shows these texts, one in each column
abbrev pub row_of : RowGaps → List (List ℕ) → List ℕ
row_of gaps texts = gaps.left ++ join_with gaps.middle texts ++ gaps.right

-- a text that is whole and ends plain, so that it changes nothing behind it
abbrev pub StandsAlone : List ℕ → Type 0
StandsAlone text = IsWholeText text × EndsPlain text

-- what texts show by themselves, with this one between each two
abbrev pub shown_apart : List ℕ → List (List ℕ) → List PennedCharacter
shown_apart middle [] = []
shown_apart middle (text ∷ []) = penned_text plain_rendition text
shown_apart middle (text ∷ next ∷ texts) =
    penned_text plain_rendition text ++ penned_text plain_rendition middle
    ++ shown_apart middle (next ∷ texts)

-- a row of such texts and gaps shows what each of them shows by itself, with its pens and links
abbrev pub TableRowsKeepPens : Type 0
TableRowsKeepPens =
    (gaps : RowGaps) (texts : List (List ℕ))
    → StandsAlone gaps.left → StandsAlone gaps.middle → All StandsAlone texts
    → penned_text plain_rendition (row_of gaps texts) ≡ penned_text plain_rendition gaps.left
    ++ shown_apart gaps.middle texts ++ penned_text plain_rendition gaps.right

-- this is such a text, and shows what the line shows between plain blanks
pub record IsBeside (line new : List ℕ) : Type 0 where
  pub alone : StandsAlone new
  pub before : ℕ
  pub after : ℕ
  pub shown : penned_text plain_rendition new ≡ penned_text plain_rendition (blanks before)
      ++ penned_text plain_rendition line ++ penned_text plain_rendition (blanks after)

-- so does such a line once it is aligned
abbrev pub AlignedLinesKeepPens : Type 0
AlignedLinesKeepPens =
    (alignment : Alignment) (width : ℕ) (line : List ℕ) → StandsAlone line
    → IsBeside line (line_bytes (aligned alignment width line))

-- what a cell shows in so many rows: each of its lines once, in order, and blanks below them
abbrev pub cell_shown : Shape → ℕ → List (List ℕ) → List (List ℕ)
cell_shown column rows lines =
    map (λ line. line_bytes (aligned column.alignment column.width line))
    (lines ++ replicate (rows - length lines) [])

-- the rows show so many texts each, and from the first row to the last the texts of a column are
-- what its cell shows
pub record ShowsEachLineOnce (gaps : RowGaps) (columns : List Shape) (cells : List (List (List ℕ)))
    (rows : List (List ℕ)) : Type 0 where
  pub texts : List (List (List ℕ))
  pub rows_are : rows ≡ map (row_of gaps) texts
  pub each_column : All (λ row. length row ≡ length columns) texts
  pub each_cell : (at : ℕ) (column : Shape) → at < length columns
      → column ≡ slice_index_or columns at column
      → map (λ row. slice_index_or row at []) texts
      ≡ cell_shown column (height cells) (slice_index_or cells at [])

abbrev pub TablesShowEachLineOnce : Type 0
TablesShowEachLineOnce =
    (gaps : RowGaps) (columns : List Shape) (cells : List (List (List ℕ)))
    → ShowsEachLineOnce gaps columns cells (group_rows gaps columns cells)

-- ---- columns that fit what stands in them

-- the widths are the total together
abbrev pub FittingWidthsAddUp : Type 0
FittingWidthsAddUp =
    (total : ℕ) (needs : List Need) → 0 < length needs → sum (fitting_widths total needs) ≡ total

-- where the widest words have room, no column is narrower than its own
abbrev pub FittingWidthsHoldWords : Type 0
FittingWidthsHoldWords =
    (total : ℕ) (needs : List Need) → sum_by widest_word needs ≤ total
    → AllZip (λ need width. need.least ≤ width) needs (fitting_widths total needs)

-- where the widest lines have room, no column is narrower than its own
abbrev pub FittingWidthsHoldLines : Type 0
FittingWidthsHoldLines =
    (total : ℕ) (needs : List Need) → sum_by widest_line needs ≤ total
    → AllZip (λ need width. widest_line need ≤ width) needs (fitting_widths total needs)

-- where they have no more than room, no column is wider than its own
abbrev pub FittingWidthsKeepToLines : Type 0
FittingWidthsKeepToLines =
    (total : ℕ) (needs : List Need) → total ≤ sum_by widest_line needs
    → AllZip (λ need width. width ≤ widest_line need) needs (fitting_widths total needs)

-- where not even the widest words have room, no column is wider than its own
abbrev pub FittingWidthsKeepToWords : Type 0
FittingWidthsKeepToWords =
    (total : ℕ) (needs : List Need) → total < sum_by widest_word needs
    → AllZip (λ need width. width ≤ need.least) needs (fitting_widths total needs)

-- ---- tabs

-- no tab is left
abbrev pub NoTabIsLeft : Type 0
NoTabIsLeft = (stop : ℕ) (text : List ℕ) → All (λ b. b ≢ tab) (expanded_tabs stop text)

-- a text without a tab stays as it is
abbrev pub TextsWithoutTabsStay : Type 0
TextsWithoutTabsStay =
    (stop : ℕ) (text : List ℕ) → All (λ b. b ≢ tab) text → expanded_tabs stop text ≡ text

-- so what was expanded once stays
abbrev pub ExpandedTextsStay : Type 0
ExpandedTextsStay =
    (stop later : ℕ) (text : List ℕ)
    → expanded_tabs later (expanded_tabs stop text) ≡ expanded_tabs stop text

-- behind a tab, the line so far takes a multiple of `stop` columns, if neither this tab nor one
-- before it cuts an escape sequence of its line
abbrev pub TabsReachStops : Type 0
TabsReachStops =
    (stop : ℕ) (before : List ℕ) → stop ≢ 0
    → All (λ part. IsWholeText (last_line part)) (slice_split (λ b. b == tab) before)
    → text_width (last_line (expanded_tabs stop (before ++ tab ∷ []))) % stop ≡ 0

-- what follows a tab is expanded by itself
abbrev pub TabsCutTexts : Type 0
TabsCutTexts =
    (stop : ℕ) (before after : List ℕ) → expanded_tabs stop (before ++ tab ∷ after)
    ≡ expanded_tabs stop (before ++ tab ∷ []) ++ expanded_tabs stop after

-- and so is each line
abbrev pub LinesAreExpandedApart : Type 0
LinesAreExpandedApart =
    (stop : ℕ) (before after : List ℕ) → expanded_tabs stop (before ++ line_feed ∷ after)
    ≡ expanded_tabs stop before ++ line_feed ∷ expanded_tabs stop after
