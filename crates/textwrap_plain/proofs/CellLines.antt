-- Lines that keep to a width as texts of their own, by first fit, where no text has escape sequences and
-- each character has room behind each indent.
use Rattle.std.proofs.Common.{chars}
use Rattle.textwrap_base.proofs.Division.Map.{IsDividedBy-whole}
use Rattle.textwrap_display.{proofs.Common.IsWholeText, specs.Tables.{IsCell, Shape}}
use Rattle.textwrap_layout.proofs.Common.{CutsNoSequence, HasNoEscape, IsPrintedWithin, ArePieces}
use Rattle.textwrap_layout.proofs.{Common.last_piece, Paragraph.LeftOff.blanks-utf8}
use Rattle.textwrap_layout.proofs.Paragraph.{Pieces.pieces-measured, Widths.PiecesClose}
use Rattle.textwrap_layout.proofs.Text.Paragraphs.{each_part, paragraphs_of-each, text_width-append}
use Rattle.textwrap_layout.proofs.Text.Paragraphs.{units-plain}
use Rattle.textwrap_lines.proofs.Common.{All, All-cons, All-head, All-nil, All-tail, AreCuts}
use Rattle.textwrap_lines.proofs.Common.{AreParagraphParts, AreTextLines, AreTexts, Bool}
use Rattle.textwrap_lines.proofs.Common.{ByFirstFit, CanKeepToWidth, HasNoPenalty, IsDividedBy}
use Rattle.textwrap_lines.proofs.Common.{IsDividedInto, IsMeasured, IsUtf8, Line, LineParts, List}
use Rattle.textwrap_lines.proofs.Common.{Settings, WordText, [], all-left, all-right, ap}
use Rattle.textwrap_lines.proofs.Common.{append_assoc, arith, cases_Bool, cond, covered, false}
use Rattle.textwrap_lines.proofs.Common.{flat, indent_of, inl, inr, ◌-◌, ◌<◌, is_whole}
use Rattle.textwrap_lines.proofs.Common.{laid_out-cases, length, line_bytes, line_from, map, nat_lt}
use Rattle.textwrap_lines.proofs.Common.{paragraphs_of, paragraphs_of-utf8, parts_from, parts_of}
use Rattle.textwrap_lines.proofs.Common.{pieces-tile, refl, rules, sizes_of, subst, sym, tiled}
use Rattle.textwrap_lines.proofs.Common.{tiled-word_of, true, widths_of, word_of, ℕ, ◌++◌}
use Rattle.textwrap_lines.proofs.Common.{◌+◌, ◌∷◌, ◌≡◌, ◌≢◌, ◌≤◌, chars-IsAscii}
use Rattle.textwrap_lines.proofs.PrintableTexts.Bytes.{printable-utf8, printable-ascii}
use Rattle.textwrap_lines.proofs.Text.{Groups.{groups-all, groups-map}, Printed.ArePrintedWithin-by}
use Rattle.textwrap_lines.proofs.Text.Printed.{PrintsPenalty, blanks-whole, bytes-trimmed}
use Rattle.textwrap_plain.proofs.Pieces.{hyphen-printable, hyphen-prints}
use Rattle.textwrap_plain.proofs.Words.{close-at, lines-greedy, pieces-at, texts-at}
use Rattle.textwrap_plain.specs.{CutSides.points_by-cuts, Laws.{CellsKeepToColumns, HasRoomBehind}}
use Rattle.textwrap_plain.specs.{Laws.{MayKeepToColumn, hyphen_columns}, Options.is_dictionary}
use Rattle.textwrap_plain.specs.Options.{points_by}
use Rattle.textwrap_layout.specs.{Direct.as_algorithm, Options.layout_view}
use Rattle.textwrap_plain.specs.{Options.words_by, Tables.{PlainColumn, PlainMakes, plain_parts, plain_shape}}
use Rattle.textwrap_plain.specs.declared.options.PlainSplitter.{PlainSplitter}
use Rattle.textwrap_styles.proofs.SequenceTexts.{nil-whole, whole_text-append}
use Rattle.textwrap_text.proofs.Common.{All-map, zip, sum_by, filter, nat_tests, sum_by-cons}
use Rattle.textwrap_text.proofs.Common.{columns, escape, text_width}
use Rattle.textwrap_words.proofs.Common.{hyphen, visible}
use Rattle.textwrap_words.proofs.Word.Words.{text_width-nil, word_of-measured}

-- ---- one character

abbrev takes_columns : ℕ → Bool
takes_columns c = nat_lt 0 (columns c)

none-wide : (cs : List ℕ) → length (filter takes_columns cs) ≡ 0 → sum_by columns cs ≡ 0
none-wide [] none = refl
none-wide (c ∷ cs) none = grind (arith, cases_Bool, nat_tests, none-wide cs)

one-wide : (n width : ℕ) (cs : List ℕ) → All (λ c. n + columns c ≤ width) cs
    → length (filter takes_columns cs) ≡ 1 → n + sum_by columns cs ≤ width
one-wide n width [] fit one = absurd (omega (arith, one))
one-wide n width (c ∷ cs) fit one =
    let here = All-head (λ c. n + columns c ≤ width) c cs fit in
    let others = one-wide n width cs (All-tail (λ c. n + columns c ≤ width) c cs fit) in
    grind (arith, cases_Bool, nat_tests, here, none-wide cs, others, sum_by-cons columns c cs)

visible-plain : (cs : List ℕ) → All (λ c. c ≢ escape) cs → visible cs ≡ cs
visible-plain [] none = refl
visible-plain (c ∷ cs) none =
    let other = All-head (λ c. c ≢ escape) c cs none in
    search (rules, arith, visible-plain cs (All-tail (λ c. c ≢ escape) c cs none))

-- ---- a line

-- a text of its own that takes no more columns
abbrev pub Fits : ℕ → List ℕ → Type 0
Fits width line = IsWholeText line × (text_width line ≤ width)

-- a penalty that has room, and cuts no sequence
abbrev IsMarked : ℕ → WordText → Type 0
IsMarked spare w = IsWholeText w.penalty × (text_width w.penalty ≤ spare)

module _ (settings : Settings) (spare : ℕ) (text : List ℕ) (can : CanKeepToWidth settings text)
    (initial : HasRoomBehind settings.width spare text settings.initial_indent)
    (subsequent : HasRoomBehind settings.width spare text settings.subsequent_indent) where
  leaves : (b : Bool) → HasRoomBehind settings.width spare text (indent_of settings b)
  leaves true = subsequent
  leaves false = initial

  indent-whole : (b : Bool) → IsWholeText (indent_of settings b)
  indent-whole true = (can.subsequent, units-plain (chars settings.subsequent_indent) subsequent.escape)
  indent-whole false = (can.initial, units-plain (chars settings.initial_indent) initial.escape)

  -- a character of the text
  abbrev Room : ℕ → Type 0
  Room c = (c ≢ escape)
      × ((b : Bool) → text_width (indent_of settings b) + columns c + spare ≤ settings.width)

  abbrev HasRoom : WordText → Type 0
  HasRoom w = All Room (chars w.word)

  pieces-room : (ws : List WordText) → All IsMeasured ws → All Room (chars (tiled ws)) → All HasRoom ws
  pieces-room [] measured room = All-nil HasRoom
  pieces-room (w ∷ ws) measured room =
      let here = All-head IsMeasured w ws measured in
      let (word, after) = each_part Room w.word (w.whitespace ++ tiled ws) here.utf8
      (subst (λ t. All Room (chars t)) (append_assoc w.word w.whitespace (tiled ws)) room) in
      All-cons HasRoom w ws word (pieces-room ws (All-tail IsMeasured w ws measured)
      (each_part Room w.whitespace (tiled ws) (blanks-utf8 w.whitespace here.ending.blanks) after).1)

  word-whole : (w : WordText) → IsMeasured w → HasRoom w → IsWholeText w.word
  word-whole w measured room =
      (measured.utf8, units-plain (chars w.word) (λ k d lt. (room k d lt).0))

  covered-whole : (ws : List WordText) → All IsMeasured ws → All HasRoom ws → IsWholeText (covered ws)
  covered-whole [] measured room = nil-whole
  covered-whole (w ∷ []) measured room =
      word-whole w (All-head IsMeasured w [] measured) (All-head HasRoom w [] room)
  covered-whole (w ∷ v ∷ ws) measured room =
      let here = All-head IsMeasured w (v ∷ ws) measured in
      let blanks = here.ending.blanks in
      whole_text-append (w.word ++ w.whitespace) (covered (v ∷ ws))
      (whole_text-append w.word w.whitespace (word-whole w here (All-head HasRoom w (v ∷ ws) room))
      (blanks-utf8 w.whitespace blanks, blanks-whole w.whitespace blanks))
      (covered-whole (v ∷ ws) (All-tail IsMeasured w (v ∷ ws) measured)
      (All-tail HasRoom w (v ∷ ws) room))

  -- one character fits behind either indent, with the penalty
  one-fits : (b : Bool) (w : WordText) → IsMeasured w → HasRoom w → IsMarked spare w
      → length (filter takes_columns (visible (chars w.word))) ≡ 1
      → text_width (indent_of settings b ++ (w.word ++ w.penalty)) ≤ settings.width
  one-fits b w measured room marked one =
      let indent = indent_of settings b in
      let whole = indent-whole b in
      let word = word-whole w measured room in
      let plain = visible-plain (chars w.word) (λ k d lt. (room k d lt).0) in
      let fits = one-wide (text_width indent + spare) settings.width (chars w.word)
      (λ k d lt. omega (arith, (room k d lt).1 b))
      (subst (λ cs. length (filter takes_columns cs) ≡ 1) plain one) in
      omega (
        arith,
        text_width-append indent (w.word ++ w.penalty) whole.0 whole.1,
        text_width-append w.word w.penalty word.0 word.1,
        ap (sum_by columns) plain,
      )

  abbrev Keeps : LineParts → Type 0
  Keeps p = CutsNoSequence p → IsPrintedWithin settings.width p → Fits settings.width (line_bytes (line_from p))

  last-marked : (w : WordText) (ws : List WordText) → All (IsMarked spare) (w ∷ ws) → IsMarked spare (last_piece w ws)
  last-marked w [] marked = All-head (IsMarked spare) w [] marked
  last-marked w (v ∷ ws) marked = last-marked v ws (All-tail (IsMarked spare) w (v ∷ ws) marked)

  line-keeps : (b : Bool) (line : List WordText) → All IsMeasured line → All (IsMarked spare) line
      → All HasRoom line → Keeps (parts_of settings b line)
  line-keeps b [] measured marked room cuts within = (nil-whole, omega (arith, text_width-nil))
  line-keeps b (w ∷ ws) measured marked room cuts within =
      let indent = indent_of settings b in
      let slice = covered (w ∷ ws) in
      let last = last_piece w ws in
      let bytes = bytes-trimmed settings can.trims can.initial can.subsequent b w ws in
      subst (Fits settings.width) (sym bytes) (
        whole_text-append indent (slice ++ last.penalty) (indent-whole b)
            (whole_text-append slice last.penalty (covered-whole (w ∷ ws) measured room)
            (last-marked w ws marked).0),
        elim within [
          | inl fits ↦ subst (λ l. text_width l ≤ settings.width) bytes fits
          | inr (inl wide) ↦ absurd (omega (arith, wide, (leaves b).fits))
          | inr (inr (v, is, one)) ↦ alone v is one
        ],
      )
    where
      alone : (v : WordText) → w ∷ ws ≡ v ∷ []
          → length (filter takes_columns (visible (chars v.word))) ≡ 1
          → text_width (indent_of settings b ++ (covered (w ∷ ws) ++ (last_piece w ws).penalty))
          ≤ settings.width
      alone v is one =
          let first : w ≡ v = cc is in
          let none : ws ≡ [] = cc is in
          rw (none, first) (one-fits b v
          (All-head IsMeasured v [] (subst (All IsMeasured) is measured))
          (All-head HasRoom v [] (subst (All HasRoom) is room))
          (All-head (IsMarked spare) v [] (subst (All (IsMarked spare)) is marked)) one)

  lines-keep : (b : Bool) (division : List (List WordText)) → All IsMeasured (flat division)
      → All (IsMarked spare) (flat division) → All HasRoom (flat division)
      → All Keeps (parts_from settings b division)
  lines-keep b [] measured marked room = All-nil Keeps
  lines-keep b (line ∷ lines) measured marked room =
      All-cons Keeps (parts_of settings b line) (parts_from settings true lines)
      (line-keeps b line (all-left IsMeasured line (flat lines) measured)
      (all-left (IsMarked spare) line (flat lines) marked) (all-left HasRoom line (flat lines) room))
      (lines-keep true lines (all-right IsMeasured line (flat lines) measured)
      (all-right (IsMarked spare) line (flat lines) marked) (all-right HasRoom line (flat lines) room))

  -- ---- the lines of a text

  module _ (Words : List ℕ → List WordText → Type 0) (Points : List ℕ → List ℕ → Type 0)
      (Lines : List ℕ → List WordText → List (List WordText) → Type 0)
      (texts : (line : List ℕ) (words : List WordText) → IsUtf8 line → Words line words
      → AreTexts line words)
      (cuts : (text points : List ℕ) → IsUtf8 text → Points text points → AreCuts text points)
      (close : settings.break_words ≡ true → PiecesClose settings Words Points)
      (mark : (paragraph : List ℕ) (pieces : List WordText) → IsUtf8 paragraph
      → ArePieces settings Words Points paragraph pieces
      → All (λ w. PrintsPenalty w × IsMarked spare w) pieces)
      (greedy : (widths : List ℕ) (pieces : List WordText) (division : List (List WordText))
      → Lines widths pieces division → IsDividedBy ByFirstFit sizes_of widths pieces division) where
    abbrev Divides : Bool → List ℕ → List (List WordText) → Type 0
    Divides = IsDividedInto settings Words Points Lines

    -- whatever a paragraph is divided into, its pieces keep
    division-keeps : (b : Bool) (paragraph : List ℕ) (pieces : List WordText)
        (division : List (List WordText)) → flat division ≡ pieces → All IsMeasured pieces
        → All (IsMarked spare) pieces → tiled pieces ≡ paragraph → All Room (chars paragraph)
        → All Keeps (parts_from settings b division)
    division-keeps b paragraph pieces division is measured marked tile room =
        lines-keep b division (subst (All IsMeasured) (sym is) measured)
        (subst (All (IsMarked spare)) (sym is) marked) (subst (All HasRoom) (sym is)
        (pieces-room pieces measured (subst (λ t. All Room (chars t)) (sym tile) room)))

    paragraph-keeps : (b : Bool) (paragraph : List ℕ) (parts : List LineParts)
        → IsUtf8 paragraph × All Room (chars paragraph)
        → AreParagraphParts settings Divides b paragraph parts → All Keeps parts
    paragraph-keeps b paragraph parts (utf8, room) (division, laid_out, is) =
        subst (All Keeps) (sym is) (laid_out-cases (λ d. All Keeps (parts_from settings b d)) paragraph _
        division
        (division-keeps b paragraph (word_of paragraph ∷ []) ((word_of paragraph ∷ []) ∷ []) refl
        (All-cons IsMeasured (word_of paragraph) [] (word_of-measured paragraph utf8)
        (All-nil IsMeasured)) (All-cons (IsMarked spare) (word_of paragraph) []
        (nil-whole, omega (arith, text_width-nil)) (All-nil (IsMarked spare)))
        (tiled-word_of paragraph) room) (λ (pieces, are, divided).
        division-keeps b paragraph pieces division
        (IsDividedBy-whole sizes_of ByFirstFit (widths_of settings b) pieces division
        (greedy (widths_of settings b) pieces division divided))
        (pieces-measured settings Words Points texts cuts paragraph pieces utf8 are)
        (λ k d lt. (mark paragraph pieces utf8 are k d lt).1)
        (pieces-tile settings Words Points texts cuts paragraph pieces utf8 are) room)
        (is_whole settings b paragraph) laid_out)

    pub lines-fit : (lines : List Line) → IsUtf8 text → HasNoEscape text
        → AreTextLines settings Divides text lines → All (Fits settings.width) (map line_bytes lines)
    lines-fit lines utf8 none are =
        let printed = ArePrintedWithin-by settings Words Points Lines texts cuts close
        (λ paragraph pieces utf8 are k d lt. (mark paragraph pieces utf8 are k d lt).0) greedy text lines
        utf8 can are in
        let groups = printed.are.groups in
        let ending = settings.line_ending in
        let paragraphs = paragraphs_of ending text in
        let room = paragraphs_of-each Room ending text utf8
        (λ k d lt. (none k d lt, λ b. (leaves b).each k d lt)) in
        let all = paragraphs_of-utf8 ending text utf8 in
        let keeps = groups-all Keeps false paragraphs groups
        (groups-map (λ p. IsUtf8 p × All Room (chars p)) (AreParagraphParts settings Divides)
        (λ b paragraph parts. All Keeps parts) paragraph-keeps false paragraphs groups
        (λ k d lt. (all k d lt, room k d lt)) printed.are.defined) in
        let whole = printed.whole none initial.escape subsequent.escape in
        subst (λ ls. All (Fits settings.width) (map line_bytes ls)) (sym printed.are.given)
        (All-map (Fits settings.width) line_bytes (map line_from (flat groups))
        (All-map (λ l. Fits settings.width (line_bytes l)) line_from (flat groups)
        (λ k d lt. keeps k d lt (whole k d lt) (printed.within k d lt (whole k d lt)))))

-- ---- the cells of a table

hyphen-whole : IsWholeText (hyphen ∷ [])
hyphen-whole =
    let ascii = printable-ascii (hyphen ∷ []) hyphen-printable in (
      printable-utf8 (hyphen ∷ []) hyphen-printable,
      units-plain (chars (hyphen ∷ [])) (rw (chars-IsAscii (hyphen ∷ []) ascii)
          (All-cons (λ c. c ≢ escape) hyphen [] (λ is. cc) (All-nil (λ c. c ≢ escape)))),
    )

-- the penalty of a piece, which a dictionary alone gives
abbrev Marks : Bool → WordText → Type 0
Marks b w = PrintsPenalty w × IsMarked (cond b 1 0) w

no-mark : (b : Bool) (w : WordText) → HasNoPenalty w → Marks b w
no-mark b w none = rw none (text_width-nil, (nil-whole, omega (arith, text_width-nil)))

hyphen-mark : (w : WordText) → w.penalty ≡ hyphen ∷ [] → Marks true w
hyphen-mark w is =
    let width = hyphen-prints w is in
    (width, (rw is hyphen-whole, omega (arith, width, ap length is)))

-- a cell's lines, where its column and its text are such
cell-keeps : (column : PlainColumn) (text : List ℕ) (cell : List (List ℕ)) → MayKeepToColumn column text
    → IsCell PlainMakes (plain_parts column, text) cell → All (Fits column.layout.width) cell
cell-keeps column text cell may (lines, are, is) =
    let settings = layout_view column.layout in
    let separator = column.parts.words.separator in
    let splitter = column.parts.splitter in
    let Words : List ℕ → List WordText → Type 0 = λ line words. words ≡ words_by separator line in
    let Points : List ℕ → List ℕ → Type 0 = λ word points. points ≡ points_by splitter word in
    subst (All (Fits column.layout.width)) (sym is) (lines-fit settings (hyphen_columns splitter) text may.can
    may.initial may.subsequent Words Points (IsDividedBy (as_algorithm column.parts.algorithm) sizes_of)
    (texts-at separator) (points_by-cuts splitter)
    (close-at separator settings splitter may.hyphens (later-room splitter may.subsequent.fits))
    (pieces-at separator settings splitter Marks no-mark hyphen-mark)
    (lines-greedy may.first_fit) lines may.utf8 may.escape are)
  where
    later-room : (splitter : PlainSplitter)
        → text_width column.layout.subsequent_indent.now + cond (is_dictionary splitter) 1 0
        ≤ column.layout.width → is_dictionary splitter ≡ true
        → 0 < column.layout.width - text_width column.layout.subsequent_indent.now
    later-room splitter fits is = let fits' = rw is at fits in omega (arith, fits')

abbrev MayKeep : PlainColumn × List ℕ → Type 0
MayKeep p = MayKeepToColumn p.0 p.1

abbrev KeepsTo : Shape × List (List ℕ) → Type 0
KeepsTo p = All (Fits p.0.width) p.1

pub cells-keep : CellsKeepToColumns
cells-keep [] texts cells may are = All-nil KeepsTo
cells-keep (one ∷ others) [] [] may are = All-nil KeepsTo
cells-keep (one ∷ others) [] (cell ∷ cells) may are = absurd are
cells-keep (one ∷ others) (text ∷ texts) [] may are = absurd are
cells-keep (one ∷ others) (text ∷ texts) (cell ∷ cells) may (here, there) =
    All-cons KeepsTo (plain_shape (plain_parts one), cell)
    (zip (map plain_shape (map plain_parts others)) cells)
    (cell-keeps one text cell (All-head MayKeep (one, text) (zip others texts) may) here)
    (cells-keep others texts cells (All-tail MayKeep (one, text) (zip others texts) may) there)
