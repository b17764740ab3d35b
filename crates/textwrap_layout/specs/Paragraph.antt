-- The lines of a paragraph.
use Rattle.std.specs.Prelude.{◌≡◌, ℕ, ◌+◌, ◌-◌, ◌^◌, ◌<◌, ◌≤◌, Bool, true, ◌&&◌, ◌==◌, nat_lt, List}
use Rattle.std.specs.Prelude.{[], ◌∷◌, ◌++◌, All, length, map, if◌then◌else◌, MatchBool, ⊤, ◌⊎◌}
use Rattle.std.specs.String.{string_bytes}
use Rattle.std.specs.declared.borrow.CowStr.{CowStr}
use Rattle.std.specs.declared.borrow.CowStr.TheVariants.{Borrowed, Owned}
use Rattle.textwrap_words.specs.WrapAlgorithms.{Algorithm, IsDividedBy, MayDivide}
use Rattle.std.specs.List.{flat_map}
use Rattle.textwrap_words.specs.Breaking.{broken_word}
use Rattle.textwrap_base.specs.Cost.{total_width}
use Rattle.textwrap_base.specs.Division.{line_width, closed_width}
use Rattle.textwrap_base.specs.Errors.{Fits64Bits}
use Rattle.textwrap_text.specs.Units.{text_width, column_characters}
use Rattle.textwrap_words.specs.Words.{WordText, sizes_of, tiled, word_of, words_of, AreWordsOf}
use Rattle.textwrap_layout.specs.Options.{Settings, settings_view}
use Rattle.textwrap_words.specs.WordSeparators.{MaySeparate}
use Rattle.textwrap_words.specs.WordSplitters.{Splitter, AtHyphens, ArePoints, AreSplit, MaySplit}
use Rattle.textwrap_words.specs.WordSplitters.{split_words}
use Rattle.textwrap_layout.specs.declared.options.Options.{Options}

-- each text has fewer bytes
abbrev pub text_limit : ℕ
text_limit = 2 ^ 63

-- ---- a line

-- a slice of the text, or a text of its own
pub data Line : Type 0 where
  Slice : List ℕ → Line
  Built : List ℕ → Line

abbrev pub line_view : {Z : Type 0} → CowStr Z → Line
line_view (Borrowed slice) = Slice slice.now
line_view (Owned built) = Built (string_bytes built)

abbrev pub line_bytes : Line → List ℕ
line_bytes (Slice bytes) = bytes
line_bytes (Built bytes) = bytes

-- the pieces of a line, what they cover, what is added before and after that, and what is left off
-- between it and the next line
pub record LineParts : Type 0 where
  pub pieces : List WordText
  pub indent : List ℕ
  pub slice : List ℕ
  pub penalty : List ℕ
  pub left_off : List ℕ

-- a slice where nothing is added before or after it, and else a text of its own
abbrev pub assembled_line : List ℕ → List ℕ → List ℕ → Line
assembled_line indent slice penalty =
    if length (indent ++ penalty) == 0 then Slice slice else Built (indent ++ slice ++ penalty)

abbrev pub line_from : LineParts → Line
line_from p = assembled_line p.indent p.slice p.penalty

-- lines with these parts were added
abbrev pub Adds : {Z : Type 0} → List (CowStr Z) → List (CowStr Z) → List LineParts → Type 0
Adds before after parts = map line_view after ≡ map line_view before ++ map line_from parts

-- ---- what is divided

abbrev pub empty_word : WordText
empty_word = record { word = []; whitespace = []; penalty = []; width = 0 }

module _ (settings : Settings) where
  -- the columns that an indent leaves of a line
  abbrev pub width_after : List ℕ → ℕ
  width_after indent = settings.width - text_width indent

  abbrev pub later_width : ℕ
  later_width = width_after settings.subsequent_indent

  -- the width of a paragraph's first line, where `is_later` says that a line stands before it
  abbrev pub first_width : Bool → ℕ
  first_width is_later = if settings.even_paragraphs && is_later then later_width
      else width_after settings.initial_indent

  -- that width, and the one of the other lines
  abbrev pub widths_of : Bool → List ℕ
  widths_of is_later = first_width is_later ∷ later_width ∷ []

  -- where words are broken, an empty word in front may leave the first line to its indent
  abbrev pub front_pieces : List WordText
  front_pieces = if length settings.initial_indent == 0 then [] else empty_word ∷ []

  -- the columns that a later line has for a piece: where that is asked, its penalty has room, too
  abbrev pub room_of : WordText → ℕ
  room_of w =
      if settings.room_for_hyphens then later_width - length w.penalty else later_width

  -- split words, each that is wider than its room replaced by its pieces
  abbrev pub fitting_pieces : List WordText → List WordText
  fitting_pieces split = flat_map (λ w. broken_word (room_of w) w) split

  -- the same, where that is asked
  abbrev pub broken_split : List WordText → List WordText
  broken_split split = if settings.break_words then fitting_pieces split else split

  -- the pieces that split words are broken into, where that is asked
  abbrev pub broken_pieces_of : List WordText → List WordText
  broken_pieces_of split =
      if settings.break_words then front_pieces ++ fitting_pieces split else split

  -- the pieces of these words: split and broken
  abbrev pub pieces_of_words : Splitter → List WordText → List WordText
  pieces_of_words splitter words = broken_pieces_of (split_words splitter words)

  -- those of a paragraph whose words this function names
  abbrev pub pieces_by : (List ℕ → List WordText) → Splitter → List ℕ → List WordText
  pieces_by words splitter paragraph = pieces_of_words splitter (words paragraph)

  -- the same of words between blanks
  abbrev pub pieces_of : Splitter → List ℕ → List WordText
  pieces_of = pieces_by words_of

-- the same as a relation, where relations say what words a line may have, what points a word, and
-- what lines of these widths a list of pieces
module _ (settings : Settings) (Words : List ℕ → List WordText → Type 0)
    (Points : List ℕ → List ℕ → Type 0) where
  abbrev pub ArePieces : List ℕ → List WordText → Type 0
  ArePieces paragraph pieces =
      (words : List WordText) × (split : List WordText)
      × Words paragraph words × AreSplit Points words split
      × (pieces ≡ broken_pieces_of settings split)

  -- the paragraph is cut into pieces, and these are divided so, where `is_later` says that a line
  -- stands before it
  abbrev pub IsDividedInto : (List ℕ → List WordText → List (List WordText) → Type 0)
      → Bool → List ℕ → List (List WordText) → Type 0
  IsDividedInto Lines is_later paragraph division =
      (pieces : List WordText) × ArePieces paragraph pieces
      × Lines (widths_of settings is_later) pieces division

-- what parts may find: the words of a line, the points of a word, and the lines of such widths that
-- pieces are divided into
pub record Relations : Type 1 where
  pub Words : List ℕ → List WordText → Type 0
  pub Points : List ℕ → List ℕ → Type 0
  pub Lines : List ℕ → List WordText → List (List WordText) → Type 0

-- a paragraph may be divided so by parts that may find this, under these settings
abbrev pub DividesWith : Relations → Settings → Bool → List ℕ → List (List WordText) → Type 0
DividesWith may settings = IsDividedInto settings may.Words may.Points may.Lines

-- a paragraph may be divided so by the separator, the splitter and the algorithm of the options,
-- under these settings
abbrev pub DividesUnder : {E C : Type 0} {e : _} {c : _} → Options E C e c → Settings
    → Bool → List ℕ → List (List WordText) → Type 0
DividesUnder o settings =
    IsDividedInto settings (MaySeparate o.word_separator) (MaySplit o.word_splitter)
    (MayDivide o.wrap_algorithm (λ w. w))

abbrev pub DividesBy : {E C : Type 0} {e : _} {c : _} → Options E C e c
    → Bool → List ℕ → List (List WordText) → Type 0
DividesBy o = DividesUnder o (settings_view o)

-- the same by built-in parts: words between blanks, and this splitter and algorithm
abbrev pub DividesAs : Splitter → Algorithm → Settings → Bool → List ℕ → List (List WordText)
    → Type 0
DividesAs splitter algorithm settings =
    IsDividedInto settings AreWordsOf (ArePoints splitter) (IsDividedBy algorithm sizes_of)

-- the same by the words that a function names
abbrev pub DividesAt : (List ℕ → List WordText) → Splitter → Algorithm → Settings → Bool → List ℕ
    → List (List WordText) → Type 0
DividesAt words splitter algorithm settings =
    IsDividedInto settings (λ line ws. ws ≡ words line) (ArePoints splitter)
    (IsDividedBy algorithm sizes_of)

-- the same by the default separator and splitter
abbrev pub DividesByDefault : Settings → Algorithm → Bool → List ℕ → List (List WordText) → Type 0
DividesByDefault settings algorithm = DividesAs AtHyphens algorithm settings

-- under these settings the paragraph may have pieces whose widths pass 64 bits together, where
-- relations say what words a line may have, and what points a word
abbrev pub MayPass64BitsBy : Settings → (List ℕ → List WordText → Type 0)
    → (List ℕ → List ℕ → Type 0) → List ℕ → Type 0
MayPass64BitsBy settings Words Points paragraph =
    (pieces : List WordText) × ArePieces settings Words Points paragraph pieces
    × ¬ Fits64Bits (total_width sizes_of pieces)

-- the same by parts that may find this
abbrev pub MayPass64BitsWith : Relations → Settings → List ℕ → Type 0
MayPass64BitsWith may settings = MayPass64BitsBy settings may.Words may.Points

-- the same by the separator and the splitter of the options
abbrev pub MayPass64BitsUnder : {E C : Type 0} {e : _} {c : _} → Options E C e c → Settings
    → List ℕ → Type 0
MayPass64BitsUnder o settings =
    MayPass64BitsBy settings (MaySeparate o.word_separator) (MaySplit o.word_splitter)

abbrev pub MayPass64Bits : {E C : Type 0} {e : _} {c : _} → Options E C e c → List ℕ → Type 0
MayPass64Bits o = MayPass64BitsUnder o (settings_view o)

-- ---- the lines of a division, where `is_later` says that a line stands before them

-- what pieces cover, without the last one's whitespace
abbrev pub covered : List WordText → List ℕ
covered [] = []
covered (w ∷ []) = w.word
covered (w ∷ v ∷ words) = w.word ++ w.whitespace ++ covered (v ∷ words)

abbrev pub last_piece : WordText → List WordText → WordText
last_piece w [] = w
last_piece w (v ∷ words) = last_piece v words

-- the whitespace of the last piece
abbrev pub last_space : List WordText → List ℕ
last_space [] = []
last_space (w ∷ words) = (last_piece w words).whitespace

module _ (settings : Settings) where
  abbrev pub indent_of : Bool → List ℕ
  indent_of is_later = if is_later then settings.subsequent_indent else settings.initial_indent

  -- a line keeps the whitespace at its end where that is asked, and no penalty stands in its place
  abbrev pub keeps_whitespace : WordText → Bool
  keeps_whitespace last = settings.preserve_trailing_space && (length last.penalty == 0)

  -- a line without pieces is empty
  abbrev pub parts_of : Bool → List WordText → LineParts
  parts_of is_later [] =
      record { pieces = []; indent = []; slice = []; penalty = []; left_off = [] }
  parts_of is_later (w ∷ words) =
      let last = last_piece w words in
      let keeps = keeps_whitespace last in
      record {
        pieces = w ∷ words;
        indent = indent_of is_later;
        slice = if keeps then tiled (w ∷ words) else covered (w ∷ words);
        penalty = last.penalty;
        left_off = if keeps then [] else last.whitespace;
      }

  -- after the first of them, a line stands before each
  abbrev pub parts_from : Bool → List (List WordText) → List LineParts
  parts_from is_later [] = []
  parts_from is_later (line ∷ lines) = parts_of is_later line ∷ parts_from true lines

  -- without indent, a paragraph with fewer bytes than the width has columns is one line
  abbrev pub is_whole : Bool → List ℕ → Bool
  is_whole is_later paragraph =
      (length (indent_of is_later) == 0) && nat_lt (length paragraph) settings.width

-- ---- the lines of a paragraph, where a relation says what it is divided into

module _ (settings : Settings) (Divides : Bool → List ℕ → List (List WordText) → Type 0)
    (is_later : Bool) where
  -- the lines of its division
  abbrev pub AreDividedParts : List ℕ → List LineParts → Type 0
  AreDividedParts paragraph parts =
      (division : List (List WordText)) × Divides is_later paragraph division
      × (parts ≡ parts_from settings is_later division)

  -- a whole paragraph is a line of one piece, any other is divided
  abbrev pub IsLaidOut : List ℕ → List (List WordText) → Type 0
  IsLaidOut paragraph division =
      MatchBool (is_whole settings is_later paragraph)
      (division ≡ (word_of paragraph ∷ []) ∷ []) (Divides is_later paragraph division)

abbrev pub AreParagraphParts : Settings → (Bool → List ℕ → List (List WordText) → Type 0)
    → Bool → List ℕ → List LineParts → Type 0
AreParagraphParts settings Divides = AreDividedParts settings (IsLaidOut settings Divides)

-- ---- what the lines of built-in parts keep to

-- the indent of a line of these pieces: without any it has none
abbrev pub indent_before : Settings → Bool → List WordText → List ℕ
indent_before settings is_later [] = []
indent_before settings is_later (w ∷ words) = indent_of settings is_later

-- each line begins with its indent
abbrev pub AreIndented : Settings → Bool → List LineParts → Type 0
AreIndented settings is_later [] = ⊤
AreIndented settings is_later (p ∷ parts) =
    (p.indent ≡ indent_before settings is_later p.pieces) × AreIndented settings true parts

-- one piece, with one character that takes columns
abbrev pub IsOneCharacter : List WordText → Type 0
IsOneCharacter line = (w : WordText) × (line ≡ w ∷ []) × (length (column_characters w.word) ≡ 1)

-- each line that closes past its width is one such piece, where `number` is that of the first line
abbrev pub OnlyCharactersPass : List ℕ → ℕ → List (List WordText) → Type 0
OnlyCharactersPass widths number [] = ⊤
OnlyCharactersPass widths number (line ∷ lines) =
    (line_width widths number < closed_width sizes_of line → IsOneCharacter line)
    × OnlyCharactersPass widths (number + 1) lines

-- no line of a divided paragraph but such a one passes the width that it was divided for; a whole
-- paragraph keeps to the width
abbrev pub KeepToWidths : Settings → Bool → List ℕ → List LineParts → Type 0
KeepToWidths settings is_later paragraph parts =
    let lines = map (λ p. p.pieces) parts in
    MatchBool (is_whole settings is_later paragraph)
    (All (λ line. closed_width sizes_of line ≤ settings.width) lines)
    (OnlyCharactersPass (widths_of settings is_later) 0 lines)

-- a line's indent, its pieces and the blanks between them keep to the width; or its indent alone
-- passes it, or it has one piece with one character that takes columns
abbrev pub KeepsToWidth : ℕ → LineParts → Type 0
KeepsToWidth width p =
    (text_width p.indent + closed_width sizes_of p.pieces ≤ width)
    ⊎ (width < text_width p.indent) ⊎ IsOneCharacter p.pieces
