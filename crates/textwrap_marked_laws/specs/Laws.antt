-- The statements of the laws, each under a name that a caller can cite.
use Rattle.std.specs.List.{filter, flat_map, list_any, slice_split, starts_with}
use Rattle.std.specs.Prelude.{◌≡◌, ◌≢◌, ℕ, ◌+◌, ◌<◌, ◌≤◌, ◌⊎◌, ◌==◌, ◌||◌, Bool, true, false, List, []}
use Rattle.std.specs.Prelude.{◌∷◌, ◌++◌, All, bytes_eq, codes, drop, if◌then◌else◌, IsUtf8, length}
use Rattle.std.specs.Prelude.{map, nat_eq, nat_lt, None, Option, Some, ⊤}
use Rattle.textwrap_base.specs.{Cost.division_cost, Cost.problem_at, Division.closed_width}
use Rattle.textwrap_base.specs.{Division.IsDivision, declared.penalties.Penalties.Penalties}
use Rattle.textwrap_display.specs.Justifying.{gaps, line_words}
use Rattle.textwrap_layout.specs.{Paragraph.covered, Text.HasWholeSequences}
use Rattle.textwrap_marked.specs.{Pieces.pieces, Pieces.words_of_lines, Reflow.byte_order_mark}
use Rattle.textwrap_marked.specs.Reflow.{filled_end, filled_ending, first_room, IsReflowed, kept_line}
use Rattle.textwrap_marked.specs.Reflow.{kept_text, later_room, printed, shown_lines}
use Rattle.textwrap_marked.specs.{Within.IsReflowedWithin, declared.within.LineRange.LineRange}
use Rattle.textwrap_marked_lines.specs.Blocks.{blocks, is_beside, stays}
use Rattle.textwrap_marked_lines.specs.Columns.{text_columns}
use Rattle.textwrap_marked_lines.specs.Lines.{LineText, lines_of_text, without_returns}
use Rattle.textwrap_marks.specs.Marks.{is_among, is_bullet, is_comment_at, is_quote}
use Rattle.textwrap_marks.specs.{Signs.begins_text, Words.has_bytes, Words.is_white, Words.spaced_text}
use Rattle.textwrap_marks.specs.{Words.SpacedText, declared.options.Algorithm.Algorithm}
use Rattle.textwrap_marks.specs.declared.options.Algorithm.TheVariants.{FirstFit, LeastCost}
use Rattle.textwrap_marks.specs.declared.options.ReflowOptions.{ReflowOptions}
use Rattle.textwrap_text.specs.{LineEnding.ending_bytes, Units.text_width}
use Rattle.textwrap_text.specs.declared.line_ending.LineEnding.{LineEnding}
use Rattle.textwrap_words.specs.Words.{WordText, sizes_of, word_of}

-- a text becomes one text at the same options
abbrev pub ReflowedTextsAreUnique : Type 0
ReflowedTextsAreUnique =
    (options : ReflowOptions) (text first second : List ℕ)
    → IsReflowed options text first → IsReflowed options text second → first ≡ second

-- ---- the parts of a text

-- a block of a text, by its first line and all of them, and whether it stays
pub record Part : Type 0 where
  pub stays : Bool
  pub first : LineText
  pub lines : List LineText

-- blocks as parts, where a field stands beside the first of them, if it is one
abbrev pub parts_of_blocks : Bool → List (List LineText) → List Part
parts_of_blocks beside [] = []
parts_of_blocks beside ([] ∷ blocks) = parts_of_blocks beside blocks
parts_of_blocks beside ((first ∷ lines) ∷ blocks) =
    record {
      stays = stays (beside || is_beside first blocks) first;
      first = first;
      lines = first ∷ lines;
    } ∷ parts_of_blocks (is_beside first blocks) blocks

abbrev pub text_parts : ReflowOptions → List ℕ → List Part
text_parts options text = parts_of_blocks false (blocks (lines_of_text options text))

-- a part as it stands in the text
abbrev pub source : Part → List ℕ
source part = flat_map (kept_line None) part.lines

-- the new text is that of each part, one after the other
abbrev pub AreNewParts : (Part → List ℕ → Type 0) → List Part → List ℕ → Type 0
AreNewParts IsNew [] text = text ≡ []
AreNewParts IsNew (part ∷ parts) text =
    (front : List ℕ) × (back : List ℕ)
    × IsNew part front × AreNewParts IsNew parts back × (text ≡ front ++ back)

-- both texts begin with the same byte order mark, or none; what follows it in the one is its parts, and
-- in the other what becomes of each, where filled lines end so
abbrev pub AreOfParts : (List ℕ → Part → List ℕ → Type 0) → ReflowOptions → List ℕ → List ℕ → Type 0
AreOfParts IsNew options text reflowed =
    (mark : List ℕ) × (rest : List ℕ) × (new : List ℕ)
    × (mark ≡ (if starts_with nat_eq text byte_order_mark then byte_order_mark else []))
    × (text ≡ mark ++ rest) × (reflowed ≡ mark ++ new)
    × (rest ≡ flat_map source (text_parts options rest))
    × AreNewParts (IsNew (ending_bytes (filled_ending options.ending rest)))
    (text_parts options rest) new

-- ---- what stays, and what is behind prefixes

-- lines, the first behind one prefix, each later one behind an ending and the other, and this behind
-- the last of them
abbrev pub lines_behind : List ℕ → List ℕ → List ℕ → List ℕ → List (List ℕ) → List ℕ → List ℕ
lines_behind ending first later line lines end =
    (first ++ line) ++ flat_map (λ l. (ending ++ later) ++ l) lines ++ end

-- a part that stays is as it was; each other is lines, the first behind its prefix, each later one
-- behind the hanging form
abbrev pub IsKeptOrBehind : List ℕ → Part → List ℕ → Type 0
IsKeptOrBehind ending part text = of part.stays
  where
    of : Bool → Type 0
    of true = text ≡ source part
    of false =
        (line : List ℕ) × (lines : List (List ℕ))
        × (text ≡ lines_behind ending part.first.prefix part.first.hanging line lines
        (filled_end ending part.lines))

-- part by part what stays is as it was, and all else is behind its prefixes, if no ending is asked for
abbrev pub WhatStandsApartStays : Type 0
WhatStandsApartStays =
    (options : ReflowOptions) (text reflowed : List ℕ)
    → options.ending ≡ None → IsReflowed options text reflowed
    → AreOfParts IsKeptOrBehind options text reflowed

-- words between white
abbrev pub words_between_white : List ℕ → List (List ℕ)
words_between_white text = flat_map (λ w. if has_bytes w then w ∷ [] else []) (slice_split is_white text)

-- a part that stays has at most other endings; each other has its words, in order, in lines behind its
-- prefixes
abbrev pub PartKeepsWords : ReflowOptions → List ℕ → Part → List ℕ → Type 0
PartKeepsWords options ending part text = of part.stays
  where
    of : Bool → Type 0
    of true = text ≡ kept_text options part.lines
    of false =
        (line : List ℕ) × (lines : List (List ℕ))
        × (text ≡ lines_behind ending part.first.prefix part.first.hanging line lines
        (filled_end ending part.lines))
        × (flat_map words_between_white (line ∷ lines) ≡ words_of_lines part.lines)

-- part by part the words of each paragraph are those of its lines, and all else stays
abbrev pub WordsAreKept : Type 0
WordsAreKept =
    (options : ReflowOptions) (text reflowed : List ℕ)
    → IsReflowed options text reflowed → AreOfParts (PartKeepsWords options) options text reflowed

-- ---- nothing is lost

-- what may stand before the text of a line: white, then at most one comment mark and quote marks, with
-- white behind each. In a block comment the mark is `*`
pub record IsMargin (options : ReflowOptions) (margin : List ℕ) : Type 0 where
  pub lead : List ℕ
  pub comments : List SpacedText
  pub quotes : List SpacedText
  pub in_block : Bool
  pub is : margin ≡ lead ++ spaced_text (comments ++ quotes)
  pub white : All (λ c. is_white c ≡ true) lead
  pub one : length comments ≤ 1
  pub comment : All (λ w. is_comment_at options in_block w.word ≡ true) comments
  pub quote : All (λ w. is_quote w.word ≡ true) quotes
  pub apart : All (λ w. 0 < length w.white × All (λ c. is_white c ≡ true) w.white) (comments ++ quotes)

-- a line shows the words behind a margin of it, and where it has no word at all a line feed
abbrev pub LineShows : ReflowOptions → List ℕ → List (List ℕ) → Type 0
LineShows options line shown =
    (margin : List ℕ) × (rest : List ℕ) × IsMargin options margin × (line ≡ margin ++ rest)
    × (shown ≡ (if nat_lt 0 (length (words_between_white line)) then words_between_white rest
    else (10 ∷ []) ∷ []))

-- lines, without the carriage returns at their ends, show this one after the other
abbrev pub AreShown : ReflowOptions → List (List ℕ) → List (List ℕ) → Type 0
AreShown options [] shown = shown ≡ []
AreShown options (line ∷ lines) shown =
    (front : List (List ℕ)) × (back : List (List ℕ)) × LineShows options (without_returns line) front
    × AreShown options lines back × (shown ≡ front ++ back)

-- what follows a byte order mark, if there is one
abbrev pub behind_mark : List ℕ → List ℕ
behind_mark text = if starts_with nat_eq text byte_order_mark then drop 3 text else text

-- the lines of a text, between line feeds, behind that mark
abbrev pub lines_behind_mark : List ℕ → List (List ℕ)
lines_behind_mark text = slice_split (λ c. c == 10) (behind_mark text)

-- both texts begin with a byte order mark, or neither does, and their lines show the same
abbrev pub ShowTheSame : ReflowOptions → List ℕ → List ℕ → Type 0
ShowTheSame options text other =
    (starts_with nat_eq other byte_order_mark ≡ starts_with nat_eq text byte_order_mark)
    × (shown : List (List ℕ)) × AreShown options (lines_behind_mark text) shown
    × AreShown options (lines_behind_mark other) shown

-- no word is lost, added, moved, cut or taken past an empty line, but for what stands in margins
abbrev pub NothingIsLost : Type 0
NothingIsLost =
    (options : ReflowOptions) (text reflowed : List ℕ)
    → IsReflowed options text reflowed → ShowTheSame options text reflowed

-- nor where only the paragraphs at some lines are filled
abbrev pub NothingIsLostWithin : Type 0
NothingIsLostWithin =
    (options : ReflowOptions) (range : LineRange) (text reflowed : List ℕ)
    → IsReflowedWithin options range text reflowed → ShowTheSame options text reflowed

-- ---- lines that stand for themselves

-- a mark that may stand before a text: of a comment, a quote, a bullet, or an end of a box
abbrev pub is_line_mark : ReflowOptions → List ℕ → Bool
is_line_mark options word =
    is_comment_at options true word || is_comment_at options false word || is_quote word
    || is_bullet word || bytes_eq word (codes "[") || bytes_eq word (codes "]")

-- the first of these words that is no such mark begins no text: it has no letter or digit, or begins as
-- a sign of a language or of Markdown does, or tells a tool something
abbrev pub begins_no_text : ReflowOptions → List (List ℕ) → Bool
begins_no_text options [] = false
begins_no_text options (word ∷ words) =
    if begins_text false word then false
    else if is_line_mark options word then begins_no_text options words else true

-- a line begins no text, or has a word `|`, as a row of a table has
abbrev pub stands_alone : ReflowOptions → List ℕ → Bool
stands_alone options line =
    let words = words_between_white line in
    begins_no_text options words || list_any (λ w. bytes_eq w (codes "|")) words

-- such lines, without the carriage returns at their ends
abbrev pub lines_alone : ReflowOptions → List (List ℕ) → List (List ℕ)
lines_alone options lines = filter (stands_alone options) (map without_returns lines)

-- the caller declared no mark `|`
abbrev pub HasNoBarMark : ReflowOptions → Type 0
HasNoBarMark options = is_among (codes "|") options.markers.now ≡ false

-- both texts have the same of them, byte for byte and in order
abbrev pub HaveTheSameAlone : ReflowOptions → List ℕ → List ℕ → Type 0
HaveTheSameAlone options text other =
    HasNoBarMark options
    → lines_alone options (lines_behind_mark other) ≡ lines_alone options (lines_behind_mark text)

abbrev pub LinesAloneStay : Type 0
LinesAloneStay =
    (options : ReflowOptions) (text reflowed : List ℕ)
    → IsReflowed options text reflowed → HaveTheSameAlone options text reflowed

abbrev pub LinesAloneStayWithin : Type 0
LinesAloneStayWithin =
    (options : ReflowOptions) (range : LineRange) (text reflowed : List ℕ)
    → IsReflowedWithin options range text reflowed → HaveTheSameAlone options text reflowed

-- ---- the lines of a paragraph

-- the pieces of a paragraph, as words
abbrev pub piece_words : ReflowOptions → LineText → List LineText → List WordText
piece_words options first lines = map word_of (pieces options first.starred (words_of_lines lines))

-- the text of a paragraph is that of this division of its pieces
abbrev pub IsPrinted : ReflowOptions → List ℕ → Part → List ℕ → List (List WordText) → Type 0
IsPrinted options ending part text division =
    IsDivision (piece_words options part.first part.lines) division
    × (text ≡ printed ending part.first.prefix part.first.hanging
    (shown_lines options part.first division) ++ filled_end ending part.lines)

-- one piece, or what takes no more than the width behind this prefix
abbrev pub IsWithin : ℕ → List ℕ → List WordText → Type 0
IsWithin width prefix line =
    (length line ≤ 1) ⊎ (text_columns prefix + closed_width sizes_of line ≤ width)

-- the first line behind one prefix, and each later one behind the other
abbrev pub AreWithin : ℕ → List ℕ → List ℕ → List (List WordText) → Type 0
AreWithin width first later [] = ⊤
AreWithin width first later (line ∷ lines) =
    IsWithin width first line × All (IsWithin width later) lines

-- a part that does not stay keeps to the width
abbrev pub PartKeepsToWidth : ReflowOptions → List ℕ → Part → List ℕ → Type 0
PartKeepsToWidth options ending part text = of part.stays
  where
    of : Bool → Type 0
    of true = ⊤
    of false =
        (division : List (List WordText)) × IsPrinted options ending part text division
        × AreWithin options.width part.first.prefix part.first.hanging division

-- by first fit each printed line of a paragraph, with its prefix, keeps to the width, or is one piece
abbrev pub FirstFitKeepsToWidth : Type 0
FirstFitKeepsToWidth =
    (options : ReflowOptions) (text reflowed : List ℕ)
    → options.algorithm ≡ FirstFit → IsReflowed options text reflowed
    → AreOfParts (PartKeepsToWidth options) options text reflowed

-- what its prefixes leave of the width, for the first line and for the later ones
abbrev pub widths_left : ReflowOptions → LineText → List ℕ
widths_left options first = first_room options first ∷ later_room options first ∷ []

-- of a part that does not stay no other division of its pieces costs less, at these penalties
abbrev pub CostsLeast : ReflowOptions → Penalties → List ℕ → Part → List ℕ → Type 0
CostsLeast options penalties ending part text = of part.stays
  where
    of : Bool → Type 0
    of true = ⊤
    of false =
        let all = piece_words options part.first part.lines in
        let cost = division_cost (problem_at penalties sizes_of (widths_left options part.first) all) in
        (division : List (List WordText)) × IsPrinted options ending part text division
        × ((others : List (List WordText)) → IsDivision all others → cost division ≤ cost others)

-- by least cost no other division of a paragraph's pieces costs less
abbrev pub LeastCostIsLeast : Type 0
LeastCostIsLeast =
    (options : ReflowOptions) (penalties : Penalties) (text reflowed : List ℕ)
    → options.algorithm ≡ LeastCost penalties → IsReflowed options text reflowed
    → AreOfParts (CostsLeast options penalties) options text reflowed

-- ---- justified lines

-- a line of these pieces, printed so behind a prefix, is as wide as the width, if it has a gap, its words
-- fit, and each escape sequence of a word ends in that word
abbrev pub IsAsWide : ℕ → List ℕ → List WordText → List ℕ → Type 0
IsAsWide width prefix line text =
    IsUtf8 (covered line) → All (λ w. HasWholeSequences w.word) (line_words (covered line))
    → gaps (covered line) ≢ 0 → text_columns prefix + text_width (covered line) ≤ width
    → text_columns prefix + text_width text ≡ width

-- all lines but the last are: the first behind one prefix, and each later one behind the other
abbrev pub AreAsWide : ℕ → List ℕ → List ℕ → List (List WordText) → List (List ℕ) → Type 0
AreAsWide width first later [] texts = ⊤
AreAsWide width first later (line ∷ []) texts = ⊤
AreAsWide width first later (line ∷ next ∷ lines) [] = ⊥
AreAsWide width first later (line ∷ next ∷ lines) (text ∷ texts) =
    IsAsWide width first line text × AreAsWide width later later (next ∷ lines) texts

-- the lines of a part that does not stay have its words, in order, and are as wide as the width
abbrev pub FillsWidth : ReflowOptions → List ℕ → Part → List ℕ → Type 0
FillsWidth options ending part text = of part.stays
  where
    of : Bool → Type 0
    of true = ⊤
    of false =
        (division : List (List WordText)) × IsPrinted options ending part text division
        × (flat_map words_between_white (shown_lines options part.first division)
        ≡ words_of_lines part.lines)
        × AreAsWide options.width part.first.prefix part.first.hanging division
        (shown_lines options part.first division)

-- where lines are justified, the words stay, and each printed line of a paragraph but its last, with its
-- prefix, is as wide as the width, if it has a gap and its words fit
abbrev pub JustifiedPartsAreAsWide : Type 0
JustifiedPartsAreAsWide =
    (options : ReflowOptions) (text reflowed : List ℕ)
    → options.justify ≡ true → IsReflowed options text reflowed
    → AreOfParts (FillsWidth options) options text reflowed

-- ---- the new text, read again

-- the same paragraph of two texts: all that its lines are made of, but for how its words are divided
pub record IsSameParagraph (part other : Part) : Type 0 where
  pub prefix : other.first.prefix ≡ part.first.prefix
  pub hanging : other.first.hanging ≡ part.first.hanging
  pub starred : other.first.starred ≡ part.first.starred
  pub words : words_of_lines other.lines ≡ words_of_lines part.lines
  -- what stands behind its last line, whatever the ending
  pub end : (ending : List ℕ) → filled_end ending other.lines ≡ filled_end ending part.lines

-- the same lines that stay, but for their endings where another one is asked for, or the same paragraph
abbrev pub IsSameBy : Option LineEnding → Bool → Part → Part → Type 0
IsSameBy ending true part other =
    (other.stays ≡ true)
    × (flat_map (kept_line ending) other.lines ≡ flat_map (kept_line ending) part.lines)
IsSameBy ending false part other = (other.stays ≡ false) × IsSameParagraph part other

abbrev pub AreSameParts : Option LineEnding → List Part → List Part → Type 0
AreSameParts ending [] [] = ⊤
AreSameParts ending [] (other ∷ others) = ⊥
AreSameParts ending (part ∷ parts) [] = ⊥
AreSameParts ending (part ∷ parts) (other ∷ others) =
    IsSameBy ending part.stays part other × AreSameParts ending parts others

-- filled lines of both end the same
abbrev pub EndAlike : ReflowOptions → List ℕ → List ℕ → Type 0
EndAlike options text other =
    filled_ending options.ending (behind_mark other) ≡ filled_ending options.ending (behind_mark text)

-- if the other text is a single line, which may not say how lines end, it is as if it did
abbrev pub KeepsEnding : ReflowOptions → List ℕ → List ℕ → Type 0
KeepsEnding options text other =
    length (slice_split (λ c. c == 10) (behind_mark other)) ≡ 1 → EndAlike options text other

-- the new text, read again, has the parts of the text
abbrev pub PartsAreKept : Type 0
PartsAreKept =
    (options : ReflowOptions) (text reflowed : List ℕ)
    → IsReflowed options text reflowed
    → AreSameParts options.ending (text_parts options (behind_mark text))
    (text_parts options (behind_mark reflowed))

-- so it has where only the paragraphs at some lines are filled
abbrev pub PartsAreKeptWithin : Type 0
PartsAreKeptWithin =
    (options : ReflowOptions) (range : LineRange) (text reflowed : List ℕ)
    → IsReflowedWithin options range text reflowed
    → AreSameParts options.ending (text_parts options (behind_mark text))
    (text_parts options (behind_mark reflowed))

-- the new text, reflowed by the same options, stays as it is
abbrev pub ReflowedTextsStay : Type 0
ReflowedTextsStay =
    (options : ReflowOptions) (text reflowed : List ℕ)
    → IsReflowed options text reflowed → IsReflowed options reflowed reflowed

-- what a text becomes that was reflowed at another width, by any algorithm, it becomes at once
abbrev pub EarlierWidthsMakeNoDifference : Type 0
EarlierWidthsMakeNoDifference =
    (options : ReflowOptions) (width : ℕ) (algorithm : Algorithm) (text between reflowed : List ℕ)
    → KeepsEnding options text between
    → IsReflowed (record options { width = width; algorithm = algorithm }) text between
    → IsReflowed options between reflowed → IsReflowed options text reflowed

-- what a text becomes that was reflowed with any ending, at another width and by any algorithm, it
-- becomes at once, if an ending is asked for then
abbrev pub EarlierEndingsMakeNoDifference : Type 0
EarlierEndingsMakeNoDifference =
    (options : ReflowOptions) (width : ℕ) (algorithm : Algorithm) (before : Option LineEnding)
    (ending : LineEnding) → options.ending ≡ Some ending → (text between reflowed : List ℕ)
    → IsReflowed (record options { width = width; algorithm = algorithm; ending = before }) text between
    → IsReflowed options between reflowed → IsReflowed options text reflowed
