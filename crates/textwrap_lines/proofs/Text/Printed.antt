-- Lines as they are printed are as wide as their indents and pieces.
use Rattle.textwrap_lines.proofs.Common.{paragraphs_of-utf8, AreParagraphParts, ArePrintedWithin, ℕ}
use Rattle.textwrap_lines.proofs.Common.{printable-width, AreTexts-words, CanKeepToWidth, AreGroups}
use Rattle.textwrap_lines.proofs.Common.{assembled_line, ends_in_hyphen, laid_out-cases, All-weaker}
use Rattle.textwrap_lines.proofs.Common.{chars-IsAscii, IsDividedInto, paragraphs_of, tiled-word_of}
use Rattle.textwrap_lines.proofs.Common.{append_assoc, AreTextLines, HasNoPenalty, KeepsToWidth, []}
use Rattle.textwrap_lines.proofs.Common.{closed_width, first_width, IsDividedBy, IsPrintable, arith}
use Rattle.textwrap_lines.proofs.Common.{pieces-tile, append-nil, IsMeasured, line_bytes, DividesAs}
use Rattle.textwrap_lines.proofs.Common.{parts_from, LineParts, MatchBool, all-right, indent_of, ap}
use Rattle.textwrap_lines.proofs.Common.{line_from, widths_of, All-cons, All-head, All-tail, ByFirstFit}
use Rattle.textwrap_lines.proofs.Common.{AreTexts, Settings, Splitter, WordText, all-left, is_whole}
use Rattle.textwrap_lines.proofs.Common.{parts_of, sizes_of, All-nil, AreCuts, covered, word_of}
use Rattle.textwrap_lines.proofs.Common.{IsUtf8, false, rules, subst, tiled, Bool, cond, flat, Line}
use Rattle.textwrap_lines.proofs.Common.{List, take, true, ◌++◌, All, inl, inr, sym, ◌+◌, ◌∙◌}
use Rattle.textwrap_lines.proofs.Common.{◌∷◌, ◌≡◌, ◌≢◌}
use Rattle.textwrap_text.proofs.Common.{chars-nil, eqb-true, text_width, ◌⊎◌}
use Rattle.textwrap_text.specs.Units.{escape}
use Rattle.std.specs.Prelude.{chars}
use Rattle.textwrap_text.proofs.Units.Reading.{printable-ascii}
use Rattle.textwrap_words.proofs.Word.Words.{text_width-nil, word_of-measured}
use Rattle.textwrap_words.proofs.Word.Texts.{AreBlanks}
use Rattle.textwrap_layout.proofs.Common.{CutsNoSequence, HasWholeSequences, IsPrintedWithin}
use Rattle.textwrap_layout.proofs.Common.{HasNoEscape}
use Rattle.textwrap_layout.proofs.Paragraph.{LeftOff.blanks-utf8, Widths.PiecesClose}
use Rattle.textwrap_layout.proofs.Paragraph.Widths.{close-plain}
use Rattle.textwrap_layout.proofs.Common.{ArePieces, last_piece}
use Rattle.textwrap_text.proofs.Common.{length, ◌==◌, ◌&&◌}
use Rattle.textwrap_lines.proofs.Common.{ArePoints, AreWordsOf}
use Rattle.textwrap_layout.proofs.Text.Paragraphs.{each_part, paragraphs_of-each, text_width-append}
use Rattle.textwrap_layout.proofs.Text.Paragraphs.{units-plain}
use Rattle.textwrap_base.proofs.Division.Map.{IsDividedBy-whole}
use Rattle.textwrap_words.proofs.Word.Pieces.{ArePoints-cuts, ArePoints-hyphens}
use Rattle.textwrap_lines.proofs.Paragraph.KeepsTo.{first_width-own, own_width, paragraph-even}
use Rattle.textwrap_layout.proofs.Paragraph.Pieces.{pieces-measured, pieces-no_penalty}
use Rattle.textwrap_lines.proofs.Text.Groups.{groups-all, groups-map}

-- ---- a line

pub blanks-printable : (bytes : List ℕ) → AreBlanks bytes → IsPrintable bytes
blanks-printable bytes blanks = grind (arith, All-weaker, eqb-true)

pub blanks-whole : (bytes : List ℕ) → AreBlanks bytes → HasWholeSequences bytes
blanks-whole bytes blanks =
    grind (arith, blanks-printable, chars-IsAscii, printable-ascii, units-plain, All-weaker)

-- each byte of the penalty takes a column
abbrev pub PrintsPenalty : WordText → Type 0
PrintsPenalty w = text_width w.penalty ≡ length w.penalty

pub prints-plain : (ws : List WordText) → All HasNoPenalty ws → All PrintsPenalty ws
prints-plain ws none =
    All-weaker HasNoPenalty PrintsPenalty (λ w n. rw n text_width-nil) ws none

-- what pieces cover, and the penalty behind it
covered-width : (w : WordText) (ws : List WordText) → All IsMeasured (w ∷ ws)
    → All PrintsPenalty (w ∷ ws) → All (λ w. HasWholeSequences w.word) (w ∷ ws)
    → text_width (covered (w ∷ ws) ++ (last_piece w ws).penalty) ≡ closed_width sizes_of (w ∷ ws)
covered-width w [] measured prints whole =
    let here = All-head IsMeasured w [] measured in
    omega (
      arith,
      here.width,
      text_width-append w.word w.penalty here.utf8
          (All-head (λ w. HasWholeSequences w.word) w [] whole),
      All-head PrintsPenalty w [] prints,
    )
covered-width w (v ∷ ws) measured prints whole =
    let here = All-head IsMeasured w (v ∷ ws) measured in
    let covers = covered (v ∷ ws) in
    let penalty = (last_piece v ws).penalty in
    let rest = covers ++ penalty in
    omega (
      arith,
      here.width,
      ap text_width (append_assoc (w.word ++ w.whitespace) covers penalty),
      ap text_width (append_assoc w.word w.whitespace rest),
      text_width-append w.word (w.whitespace ++ rest) here.utf8
          (All-head (λ w. HasWholeSequences w.word) w (v ∷ ws) whole),
      text_width-append w.whitespace rest (blanks-utf8 w.whitespace here.ending.blanks)
          (blanks-whole w.whitespace here.ending.blanks),
      printable-width w.whitespace (blanks-printable w.whitespace here.ending.blanks),
      covered-width v ws (All-tail IsMeasured w (v ∷ ws) measured)
          (All-tail PrintsPenalty w (v ∷ ws) prints)
          (All-tail (λ w. HasWholeSequences w.word) w (v ∷ ws) whole),
    )

bytes-built : (indent slice penalty : List ℕ)
    → line_bytes (assembled_line indent slice penalty) ≡ indent ++ (slice ++ penalty)
bytes-built [] slice [] = sym (append-nil slice)
bytes-built [] slice (c ∷ penalty) = grind arith
bytes-built (c ∷ indent) slice penalty = grind (arith, append_assoc)

-- a line is as wide as its indent and what its pieces close at
abbrev pub PrintsAsMeasured : LineParts → Type 0
PrintsAsMeasured p = CutsNoSequence p
    → text_width (line_bytes (line_from p)) ≡ text_width p.indent + closed_width sizes_of p.pieces

module _ (settings : Settings) (trims : settings.preserve_trailing_space ≡ false)
    (initial : IsUtf8 settings.initial_indent) (subsequent : IsUtf8 settings.subsequent_indent) where
  indent-utf8 : (is_later : Bool) → IsUtf8 (indent_of settings is_later)
  indent-utf8 true = subsequent
  indent-utf8 false = initial

  pub bytes-trimmed : (is_later : Bool) (w : WordText) (ws : List WordText)
      → line_bytes (line_from (parts_of settings is_later (w ∷ ws)))
      ≡ indent_of settings is_later ++ (covered (w ∷ ws) ++ (last_piece w ws).penalty)
  bytes-trimmed is_later w ws =
      let indent = indent_of settings is_later in
      let slice = covered (w ∷ ws) in
      let penalty = (last_piece w ws).penalty in
      ap (λ b. line_bytes (assembled_line indent
      (cond (b && (length penalty == 0)) (tiled (w ∷ ws)) slice) penalty)) trims
      ∙ bytes-built indent slice penalty

  line-printed : (is_later : Bool) (line : List WordText) → All IsMeasured line
      → All PrintsPenalty line → PrintsAsMeasured (parts_of settings is_later line)
  line-printed is_later [] measured prints cuts = omega arith
  line-printed is_later (w ∷ ws) measured prints cuts =
      let indent = indent_of settings is_later in
      let slice = covered (w ∷ ws) in
      let penalty = (last_piece w ws).penalty in
      ap text_width (bytes-trimmed is_later w ws)
      ∙ text_width-append indent (slice ++ penalty) (indent-utf8 is_later) cuts.0
      ∙ ap (λ n. text_width indent + n) (covered-width w ws measured prints cuts.1)

  pub lines-printed : (is_later : Bool) (division : List (List WordText))
      → All IsMeasured (flat division) → All PrintsPenalty (flat division)
      → All PrintsAsMeasured (parts_from settings is_later division)
  lines-printed is_later [] measured prints = All-nil PrintsAsMeasured
  lines-printed is_later (line ∷ lines) measured prints =
      All-cons PrintsAsMeasured (parts_of settings is_later line) (parts_from settings true lines)
      (search (rules, arith, line-printed, all-left))
      (lines-printed true lines (all-right IsMeasured line (flat lines) measured)
      (all-right PrintsPenalty line (flat lines) prints))

-- ---- where neither text nor indents have escape sequences

pub words-whole : (ws : List WordText) → All IsMeasured ws → HasNoEscape (tiled ws)
    → All (λ w. HasWholeSequences w.word) ws
words-whole [] measured none = All-nil (λ w. HasWholeSequences w.word)
words-whole (w ∷ ws) measured none =
    let here = All-head IsMeasured w ws measured in
    let (word, after) = each_part (λ c. c ≢ escape) w.word (w.whitespace ++ tiled ws) here.utf8
    (subst HasNoEscape (append_assoc w.word w.whitespace (tiled ws)) none) in
    let (blanks, rest) = each_part (λ c. c ≢ escape) w.whitespace (tiled ws)
    (blanks-utf8 w.whitespace here.ending.blanks) after in
    All-cons (λ w. HasWholeSequences w.word) w ws (units-plain (chars w.word) word)
    (words-whole ws (All-tail IsMeasured w ws measured) rest)

module _ (settings : Settings) (initial : HasNoEscape settings.initial_indent)
    (subsequent : HasNoEscape settings.subsequent_indent) where
  indent-whole : (is_later : Bool) → HasWholeSequences (indent_of settings is_later)
  indent-whole true = units-plain (chars settings.subsequent_indent) subsequent
  indent-whole false = units-plain (chars settings.initial_indent) initial

  line-whole : (is_later : Bool) (line : List WordText) → All (λ w. HasWholeSequences w.word) line
      → CutsNoSequence (parts_of settings is_later line)
  line-whole is_later [] whole = grind (arith, chars-nil, All-nil)
  line-whole is_later (w ∷ ws) whole = (indent-whole is_later, whole)

  pub lines-whole : (is_later : Bool) (division : List (List WordText))
      → All (λ w. HasWholeSequences w.word) (flat division)
      → All CutsNoSequence (parts_from settings is_later division)
  lines-whole is_later [] whole = All-nil CutsNoSequence
  lines-whole is_later (line ∷ lines) whole =
      All-cons CutsNoSequence (parts_of settings is_later line) (parts_from settings true lines)
      (line-whole is_later line (all-left (λ w. HasWholeSequences w.word) line (flat lines) whole))
      (lines-whole true lines (all-right (λ w. HasWholeSequences w.word) line (flat lines) whole))

-- ---- the lines of a text, by first fit

-- where points stand behind hyphens of the word alone
pub print-plain : (settings : Settings) (Words : List ℕ → List WordText → Type 0)
    (Points : List ℕ → List ℕ → Type 0)
    (texts : (line : List ℕ) (words : List WordText) → IsUtf8 line → Words line words
    → AreTexts line words)
    (cuts : (text points : List ℕ) → IsUtf8 text → Points text points → AreCuts text points)
    (hyphens : (text points : List ℕ) → Points text points
    → All (λ p. ends_in_hyphen (take p text) ≡ true) points)
    (paragraph : List ℕ) (pieces : List WordText) → IsUtf8 paragraph
    → ArePieces settings Words Points paragraph pieces → All PrintsPenalty pieces
print-plain settings Words Points texts cuts hyphens paragraph pieces utf8 are =
    prints-plain pieces
    (pieces-no_penalty settings Words Points texts cuts hyphens paragraph pieces utf8 are)

-- the pieces of a paragraph
record AreItsPieces (paragraph : List ℕ) (pieces : List WordText) : Type 0 where
  measured : All IsMeasured pieces
  prints : All PrintsPenalty pieces
  tile : tiled pieces ≡ paragraph

module _ (settings : Settings) (Words : List ℕ → List WordText → Type 0)
    (Points : List ℕ → List ℕ → Type 0)
    (Lines : List ℕ → List WordText → List (List WordText) → Type 0)
    (texts : (line : List ℕ) (words : List WordText) → IsUtf8 line → Words line words
    → AreTexts line words)
    (cuts : (text points : List ℕ) → IsUtf8 text → Points text points → AreCuts text points)
    (close : settings.break_words ≡ true → PiecesClose settings Words Points)
    (print : (paragraph : List ℕ) (pieces : List WordText) → IsUtf8 paragraph
    → ArePieces settings Words Points paragraph pieces → All PrintsPenalty pieces)
    (greedy : (widths : List ℕ) (pieces : List WordText) (division : List (List WordText))
    → Lines widths pieces division → IsDividedBy ByFirstFit sizes_of widths pieces division) where
  abbrev Divides : Bool → List ℕ → List (List WordText) → Type 0
  Divides = IsDividedInto settings Words Points Lines

  abbrev AreParts : Bool → List ℕ → List LineParts → Type 0
  AreParts = AreParagraphParts settings Divides

  division-whole : (widths : List ℕ) (pieces : List WordText) (division : List (List WordText))
      → Lines widths pieces division → flat division ≡ pieces
  division-whole widths pieces division divided = search (rules, arith, IsDividedBy-whole)

  division-pieces : (is_later : Bool) (paragraph : List ℕ) (division : List (List WordText))
      → IsUtf8 paragraph
      → MatchBool (is_whole settings is_later paragraph) (division ≡ (word_of paragraph ∷ []) ∷ [])
      (Divides is_later paragraph division) → AreItsPieces paragraph (flat division)
  division-pieces is_later paragraph division utf8 laid_out =
      laid_out-cases (λ d. AreItsPieces paragraph (flat d)) paragraph _ division
      (record {
        measured = All-cons IsMeasured (word_of paragraph) [] (word_of-measured paragraph utf8)
            (All-nil IsMeasured);
        prints = All-cons PrintsPenalty (word_of paragraph) [] text_width-nil (All-nil PrintsPenalty);
        tile = tiled-word_of paragraph;
      }) (λ (pieces, are, divided). subst (AreItsPieces paragraph)
      (sym (division-whole (widths_of settings is_later) pieces division divided))
      (record {
        measured = pieces-measured settings Words Points texts cuts paragraph pieces utf8 are;
        prints = print paragraph pieces utf8 are;
        tile = pieces-tile settings Words Points texts cuts paragraph pieces utf8 are;
      })) (is_whole settings is_later paragraph) laid_out

  paragraph-whole : HasNoEscape settings.initial_indent → HasNoEscape settings.subsequent_indent
      → (is_later : Bool) (paragraph : List ℕ) (parts : List LineParts)
      → IsUtf8 paragraph × HasNoEscape paragraph → AreParts is_later paragraph parts
      → All CutsNoSequence parts
  paragraph-whole initial subsequent is_later paragraph parts (utf8, none) (division, laid_out, is) =
      let pieces = division-pieces is_later paragraph division utf8 laid_out in
      subst (All CutsNoSequence) (sym is) (lines-whole settings initial subsequent is_later division
      (words-whole (flat division) pieces.measured (subst HasNoEscape (sym pieces.tile) none)))

  abbrev Within : LineParts → Type 0
  Within p = CutsNoSequence p → IsPrintedWithin settings.width p

  within : (p : LineParts) → KeepsToWidth settings.width p → PrintsAsMeasured p → Within p
  within p keeps printed cuts = grind arith

  module _ (text : List ℕ) (can : CanKeepToWidth settings text) where
    paragraph-within : (is_later : Bool)
        → first_width settings is_later ≡ own_width settings is_later
        → (paragraph : List ℕ) (parts : List LineParts) → IsUtf8 paragraph
        → AreParts is_later paragraph parts → All Within parts
    paragraph-within is_later own paragraph parts utf8 (division, laid_out, is) =
        let pieces = division-pieces is_later paragraph division utf8 laid_out in
        let printed = subst (All PrintsAsMeasured) (sym is)
        (search (rules, arith, lines-printed)) in
        let keeps = paragraph-even settings Words Points Lines (close can.breaks) greedy can.breaks
        is_later own paragraph parts utf8 (division, laid_out, is) in search (rules, arith, within)

    -- one paragraph, or even ones
    groups-within : (paragraphs : List (List ℕ)) (groups : List (List LineParts))
        → All IsUtf8 paragraphs → (settings.even_paragraphs ≡ true) ⊎ (paragraphs ≡ text ∷ [])
        → AreGroups AreParts false paragraphs groups → All Within (flat groups)
    groups-within paragraphs groups all even are = elim even [
      | inl even ↦ groups-all Within false paragraphs groups
          (search (rules, arith, groups-map, paragraph-within, first_width-own))
      | inr one ↦ one_group groups (subst (All IsUtf8) one all)
          (subst (λ ps. AreGroups AreParts false ps groups) one are)
    ]
      where
        one_group : (groups : List (List LineParts)) → All IsUtf8 (text ∷ [])
            → AreGroups AreParts false (text ∷ []) groups → All Within (flat groups)
        one_group [] all are = absurd are
        one_group (parts ∷ groups) all (here, none) =
            rw (none, append-nil) (paragraph-within false (grind arith) text parts
            (All-head IsUtf8 text [] all) here)

  pub ArePrintedWithin-by : (text : List ℕ) (lines : List Line) → IsUtf8 text
      → CanKeepToWidth settings text → AreTextLines settings Divides text lines
      → ArePrintedWithin settings Divides text lines
  ArePrintedWithin-by text lines utf8 can are =
      let ending = settings.line_ending in
      let paragraphs = paragraphs_of ending text in
      let all = paragraphs_of-utf8 ending text utf8 in
      record {
        are = are;
        within = search (rules, arith, groups-within);
        whole = λ none initial subsequent.
            let plain = paragraphs_of-each (λ c. c ≢ escape) ending text utf8 none in
            groups-all CutsNoSequence false paragraphs are.groups
            (groups-map (λ p. IsUtf8 p × HasNoEscape p) AreParts
            (λ is_later paragraph parts. All CutsNoSequence parts)
            (paragraph-whole initial subsequent) false paragraphs are.groups
            (λ k d lt. (all k d lt, plain k d lt)) are.defined);
      }

pub ArePrintedWithin-from : (settings : Settings) (splitter : Splitter) (text : List ℕ)
    (lines : List Line) → IsUtf8 text → CanKeepToWidth settings text
    → AreTextLines settings (DividesAs splitter ByFirstFit settings) text lines
    → ArePrintedWithin settings (DividesAs splitter ByFirstFit settings) text lines
ArePrintedWithin-from settings splitter =
    ArePrintedWithin-by settings AreWordsOf (ArePoints splitter) (IsDividedBy ByFirstFit sizes_of)
    AreTexts-words (ArePoints-cuts splitter)
    (λ breaks. close-plain settings AreWordsOf (ArePoints splitter) breaks AreTexts-words
    (ArePoints-cuts splitter) (ArePoints-hyphens splitter))
    (print-plain settings AreWordsOf (ArePoints splitter) AreTexts-words (ArePoints-cuts splitter)
    (ArePoints-hyphens splitter)) (λ widths pieces division divided. divided)
