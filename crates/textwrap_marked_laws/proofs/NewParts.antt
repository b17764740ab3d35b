-- What becomes of the parts of a text, if it is known of each, and what the laws say of one.
use Rattle.textwrap_base.{proofs.Common.{closed_width, AllFit, Fits}, proofs.Division.Greedy.line_width-later}
use Rattle.textwrap_base.{proofs.Division.Map.IsDivision-whole, specs.declared.penalties.Penalties.Penalties}
use Rattle.textwrap_display.proofs.Widths.{justified-width}
use Rattle.textwrap_lines.{proofs.Common.ByFirstFit, proofs.PlacedPieces.two-equal}
use Rattle.textwrap_marked.{proofs.PrintedLines.texts_more, specs.Reflow.IsReflowed}
use Rattle.textwrap_marked_laws.specs.Laws.{AreOfParts, CostsLeast, FillsWidth, AreAsWide, AreWithin}
use Rattle.textwrap_marked_laws.specs.Laws.{IsWithin}
use Rattle.textwrap_marked_laws.specs.Laws.{PartKeepsToWidth, IsKeptOrBehind, PartKeepsWords, AreNewParts}
use Rattle.textwrap_marked_lines.specs.Columns.{text_columns}
use Rattle.textwrap_marks.specs.declared.options.Algorithm.TheVariants as by
use Rattle.textwrap_text.proofs.Common.{reverse-append}
use Rattle.textwrap_marked_laws.proofs as own
use own.Common.{All-cons, All-head, All-tail, LineText, WordText, all-left, flat_map, sizes_of, take_all, All}
use own.Common.{All-map, All-nil, covered, word_of, blocks, is_cut, length, nat_eq, pieces, arith, blank, inl}
use own.Common.{ByOptimalFit, append_assoc, ending_bytes, line_as_read, AreOfBlocks, IsDividedBy, first_state}
use own.Common.{SpacedText, cases_Bool, first_room, later_room, line_texts, onto_front, text_parts, Algorithm}
use own.Common.{byte_order_mark, parts_of_blocks, words_of_lines, ReflowOptions, filled_ending, lines_of_text}
use own.Common.{false, subst, None, Part, cond, drop, refl, true, ◌++◌, ◌==◌, inr, map, sym, ◌+◌, ◌-◌}
use own.Common.{length-drop, piece_words, shown_lines, slice_split, starts_with, All-weaker, IsDivision, Bool}
use own.Common.{suffix_len-le-length, words_between_white, IsReflowedBehind, starts_with-rest, IsReflowedFrom}
use own.Common.{with_blank, IsOfBlock, StateText, all-right, each-flat, flat-each, is_beside, kept_line, List}
use own.{Common.{◌<◌, ◌∙◌, ◌∷◌, ◌≡◌, ◌≤◌, [], ap, ℕ, ⊤}, TextParts.{blocks-flat, text-parts}}
use own.{JustifiedTexts.lines-shown, TextBlocks.read-all}
use own.{LaterLines.{read-spaced, read_marks, line-read, read-line}, LineWords.{AreCutInto, all_shown, shown}}
use own.{SpacedBack.{spaced-plain, spaced-in, words_in, IsPlain}, SpreadWords.{spread-spaced, spread-words}}

-- ---- the words of the lines of a text

abbrev IsPlainWord : SpacedText → Type 0
IsPlainWord w = IsPlain w.word

abbrev pub IsPlainLine : LineText → Type 0
IsPlainLine line = All IsPlainWord line.words

line-plain : (options : ReflowOptions) (state : StateText) (raw : List ℕ) (fed : Bool)
    → IsPlainLine (line_as_read options state raw fed)
line-plain options state raw fed =
    let r = line-read options state raw in
    let marks = read_marks options state raw r in
    subst IsPlainLine (sym (read-line options state raw r fed)) (all-right IsPlainWord marks r.ws
    (spaced-plain (marks ++ r.ws) (read-spaced options state raw r)))

abbrev pub IsPlainBlock : List LineText → Type 0
IsPlainBlock = All IsPlainLine

pub text-plain : (options : ReflowOptions) (text : List ℕ)
    → All IsPlainBlock (blocks (lines_of_text options text))
text-plain options text =
    let lines = lines_of_text options text in
    flat-each IsPlainLine (λ l. l) (blocks lines) (subst (All IsPlainLine) (sym (blocks-flat lines))
    (read-all options IsPlainLine (λ raw. ⊤) (λ state raw fed is any. line-plain options state raw fed)
    (slice_split (λ c. c == 10) text) first_state (λ k d within. tt)))

-- ---- the lines of a paragraph, as they are printed, have its words in order

module _ (justify : Bool) where
  -- a line has its words
  shown-words : (more : ℕ → ℕ) (words : List (List ℕ)) → All IsPlain words
      → words_between_white (shown justify more words) ≡ words
  shown-words more words plain = grind (arith, cases_Bool, spaced-in, spread-spaced, All-nil, spread-words)

  all-words : (options : ReflowOptions) (starred : Bool) (wide : ℕ → ℕ → ℕ) (words : List (List ℕ))
      (lines : List (List (List ℕ))) → All IsPlain words → AreCutInto options starred words lines
      → flat_map words_between_white (all_shown justify wide lines) ≡ words
  all-words options starred wide words [] plain none = sym none
  all-words options starred wide words (own ∷ lines) plain (later, some, is, may, cut) =
      let each = subst (All IsPlain) is plain in
      ap (λ l. l ++ flat_map words_between_white (all_shown justify wide lines))
      (shown-words (wide (length lines)) own (all-left IsPlain own later each))
      ∙ ap (λ l. own ++ l) (all-words options starred wide later lines (all-right IsPlain own later each) cut)
      ∙ sym is

words-plain : (lines : List LineText) → IsPlainBlock lines → All IsPlain (words_of_lines lines)
words-plain lines all =
    each-flat IsPlain (λ l. words_in l.words) lines (All-weaker IsPlainLine
    (λ l. All IsPlain (words_in l.words)) (λ l is. All-map IsPlain (λ w. w.word) l.words is) lines all)

pub printed-words : (options : ReflowOptions) (first : LineText) (lines : List LineText)
    (division : List (List WordText)) → IsPlainBlock lines
    → IsDivision (piece_words options first lines) division
    → flat_map words_between_white (shown_lines options first division) ≡ words_of_lines lines
printed-words options first lines division plain = cut (words_of_lines lines) (words-plain lines plain)
  where
    none : (justify : Bool) (room later : ℕ)
        → flat_map words_between_white (line_texts justify room later ([] ∷ [])) ≡ []
    none justify room later = refl

    cut : (words : List (List ℕ)) → All IsPlain words
        → IsDivision (map word_of (pieces options first.starred words)) division
        → flat_map words_between_white (shown_lines options first division) ≡ words
    cut [] each is =
        ap (λ d. flat_map words_between_white (shown_lines options first d)) is
        ∙ none options.justify (first_room options first) (later_room options first)
    cut (word ∷ words) each is =
        let all = word ∷ words in
        let (ls, wide, cut, shown) = lines-shown options first all (λ none. cc) each division is in
        ap (flat_map words_between_white) shown ∙ all-words options.justify options first.starred wide all ls each cut

-- ---- how wide the printed lines are

abbrev EndsInBlank : List ℕ → Type 0
EndsInBlank text = (front : List ℕ) × (text ≡ front ++ blank ∷ [])

onto_front-blank : (front : List ℕ) (parts : List (List ℕ)) → EndsInBlank front
    → All EndsInBlank parts → All EndsInBlank (onto_front front parts)
onto_front-blank front [] ends all = All-cons EndsInBlank front [] ends all
onto_front-blank front (part ∷ parts) ends all =
    let (before, is) = All-head EndsInBlank part parts all in
    All-cons EndsInBlank (front ++ part) parts
    (front ++ before, ap (λ l. front ++ l) is ∙ sym (append_assoc front before (blank ∷ [])))
    (All-tail EndsInBlank part parts all)

pieces-blank : (options : ReflowOptions) (starred : Bool) (words : List (List ℕ))
    → All EndsInBlank (pieces options starred words)
pieces-blank options starred [] = All-nil EndsInBlank
pieces-blank options starred (word ∷ words) =
    let later = pieces options starred words in
    let all = pieces-blank options starred words in
    elim (is_cut options starred word words) as (λ b. All EndsInBlank
    (cond b (with_blank word ∷ later) (onto_front (with_blank word) later))) [
      | true ↦ All-cons EndsInBlank (with_blank word) later (word, refl) all
      | false ↦ onto_front-blank (with_blank word) later (word, refl) all
    ]

-- ---- first fit

abbrev HasBlank : WordText → Type 0
HasBlank w = 0 < length w.whitespace

word-blank : (text : List ℕ) → EndsInBlank text → HasBlank (word_of text)
word-blank text (front, is) = grind (arith, cases_Bool, reverse-append, length-drop, suffix_len-le-length)

line-within : (width : ℕ) (prefix : List ℕ) (line : List WordText) → All HasBlank line
    → Fits sizes_of (width - text_columns prefix) line → IsWithin width prefix line
line-within width prefix [] all fits = inl (omega arith)
line-within width prefix (w ∷ []) all fits = inl (omega arith)
line-within width prefix (w ∷ v ∷ ws) all fits =
    let line = w ∷ v ∷ ws in
    let closed = subst (λ l. closed_width sizes_of l ≤ width - text_columns prefix)
    (take_all (length line) line (omega arith)) (fits (length line) (omega arith) (omega arith)) in
    inr (omega (arith, closed, All-head HasBlank w (v ∷ ws) all))

later-within : (width first number : ℕ) (prefix : List ℕ) (lines : List (List WordText))
    → All (All HasBlank) lines
    → AllFit sizes_of (first ∷ (width - text_columns prefix) ∷ []) (number + 1) lines
    → All (IsWithin width prefix) lines
later-within width first number prefix [] all fit = All-nil (IsWithin width prefix)
later-within width first number prefix (line ∷ lines) all fit =
    All-cons (IsWithin width prefix) line lines
    (line-within width prefix line (All-head (All HasBlank) line lines all)
    (subst (λ w. Fits sizes_of w line) (line_width-later first (width - text_columns prefix) number) fit.0))
    (later-within width first (number + 1) prefix lines (All-tail (All HasBlank) line lines all) fit.1)

lines-within : (width : ℕ) (first later : List ℕ) (lines : List (List WordText)) → All (All HasBlank) lines
    → AllFit sizes_of ((width - text_columns first) ∷ (width - text_columns later) ∷ []) 0 lines
    → AreWithin width first later lines
lines-within width first later [] all fit = tt
lines-within width first later (line ∷ lines) all fit = (
  line-within width first line (All-head (All HasBlank) line lines all) fit.0,
  later-within width (width - text_columns first) 0 later lines
      (All-tail (All HasBlank) line lines all) fit.1,
)

pub printed-within : (options : ReflowOptions) (first : LineText) (lines : List LineText)
    (division : List (List WordText)) → IsDivision (piece_words options first lines) division
    → AllFit sizes_of
    ((options.width - text_columns first.prefix) ∷ (options.width - text_columns first.hanging) ∷ []) 0 division
    → AreWithin options.width first.prefix first.hanging division
printed-within options first lines division is fit =
    let texts = pieces options first.starred (words_of_lines lines) in
    lines-within options.width first.prefix first.hanging division
    (flat-each HasBlank (λ l. l) division (subst (All HasBlank)
    (sym (IsDivision-whole (piece_words options first lines) division is)) (All-map HasBlank word_of texts
    (All-weaker EndsInBlank (λ t. HasBlank (word_of t)) word-blank texts
    (pieces-blank options first.starred (words_of_lines lines)))))) fit

-- ---- justified lines

pub lines-as-wide : (width : ℕ) (first later : List ℕ) (lines : List (List WordText))
    → AreAsWide width first later lines
    (line_texts true (width - text_columns first) (width - text_columns later) lines)
lines-as-wide width first later [] = tt
lines-as-wide width first later (line ∷ []) = tt
lines-as-wide width first later (line ∷ next ∷ lines) = (
  (λ utf8 whole some fits. omega (
    arith,
    justified-width (covered line) utf8 whole some (width - text_columns first) (omega (arith, fits)),
  )),
  lines-as-wide width later later (next ∷ lines),
)

-- ---- all parts

abbrev part_of : Bool → LineText → List LineText → Part
part_of is_kept first lines = record { stays = is_kept; first = first; lines = lines }

-- this holds of what becomes of each block
abbrev pub HoldsOfEach : ReflowOptions → (List ℕ → Part → List ℕ → Type 0) → Type 0
HoldsOfEach options IsNew =
    (ending : List ℕ) (is_kept : Bool) (first : LineText) (lines : List LineText) (text : List ℕ)
    → IsPlainBlock lines → IsOfBlock options ending is_kept first lines text
    → IsNew ending (part_of is_kept first lines) text

module _ (options : ReflowOptions) (IsNew : List ℕ → Part → List ℕ → Type 0)
    (each : HoldsOfEach options IsNew) where
  laid-new : (ending : List ℕ) (beside : Bool) (bs : List (List LineText)) (text : List ℕ)
      → All IsPlainBlock bs → AreOfBlocks options ending beside bs text
      → AreNewParts (IsNew ending) (parts_of_blocks beside bs) text
  laid-new ending beside [] text plain is = is
  laid-new ending beside ([] ∷ bs) text plain laid =
      laid-new ending beside bs text (All-tail IsPlainBlock [] bs plain) laid
  laid-new ending beside ((first ∷ lines) ∷ bs) text plain (front, back, of, later, is) = (
    front,
    back,
    each ending _ first (first ∷ lines) front (All-head IsPlainBlock (first ∷ lines) bs plain) of,
    laid-new ending (is_beside first bs) bs back (All-tail IsPlainBlock (first ∷ lines) bs plain) later,
    is,
  )

  from-new : (text reflowed : List ℕ) → IsReflowedFrom options text reflowed
      → AreNewParts (IsNew (ending_bytes (filled_ending options.ending text))) (text_parts options text)
      reflowed
  from-new text reflowed laid = grind (arith, cases_Bool, laid-new, text-plain)

  behind-new : (marked : Bool) (text reflowed : List ℕ) → starts_with nat_eq text byte_order_mark ≡ marked
      → IsReflowedBehind marked options text reflowed → AreOfParts IsNew options text reflowed
  behind-new true text reflowed begins (new, laid, is) = (
    byte_order_mark,
    drop 3 text,
    new,
    rw begins refl,
    starts_with-rest byte_order_mark text begins,
    is,
    text-parts options (drop 3 text),
    from-new (drop 3 text) new laid,
  )
  behind-new false text reflowed begins laid = grind (arith, cases_Bool, text-parts, from-new)

  pub new-parts : (text reflowed : List ℕ) → IsReflowed options text reflowed
      → AreOfParts IsNew options text reflowed
  new-parts text reflowed = behind-new (starts_with nat_eq text byte_order_mark) text reflowed refl

-- ---- what the laws say of a part

-- either algorithm divides
pub divided-is : (algorithm : Algorithm) (widths : List ℕ) (xs : List WordText)
    (lines : List (List WordText)) → IsDividedBy algorithm sizes_of widths xs lines
    → IsDivision xs lines
divided-is ByFirstFit widths xs lines by = by.admissible.division
divided-is (ByOptimalFit penalties) widths xs lines by = by.by_table.division

-- a division has a first line
no-division : (xs : List WordText) → IsDivision xs [] → ⊥
no-division [] is = absurd (omega (arith, ap length is))
no-division (x ∷ xs) is = absurd (omega (arith, ap length is.0))

module _ (options : ReflowOptions) where
  pub kept-words : HoldsOfEach options (PartKeepsWords options)
  kept-words ending true first lines text plain is = is
  kept-words ending false first lines text plain ([], divided, is) =
      absurd (no-division (piece_words options first lines) (divided-is _ _ _ [] divided))
  kept-words ending false first lines text plain (line ∷ others, divided, is) =
      grind (arith, cases_Bool, texts_more, printed-words, divided-is)

  pub kept-or-behind : options.ending ≡ None → HoldsOfEach options IsKeptOrBehind
  kept-or-behind none ending true first lines text plain is =
      is ∙ ap (λ e. flat_map (kept_line e) lines) none
  kept-or-behind none ending false first lines text plain of =
      let (line, others, is, words) = kept-words ending false first lines text plain of in
      (line, others, is)

  pub within-width : options.algorithm ≡ by.FirstFit → HoldsOfEach options (PartKeepsToWidth options)
  within-width fits ending true first lines text plain is = tt
  within-width fits ending false first lines text plain (division, divided, is) =
      grind (arith, cases_Bool, printed-within)

  pub costs-least : (penalties : Penalties) → options.algorithm ≡ by.LeastCost penalties
      → HoldsOfEach options (CostsLeast options penalties)
  costs-least penalties least ending true first lines text plain is = tt
  costs-least penalties least ending false first lines text plain (division, divided, is) =
      let cheapest = rw least at divided in
      let chosen = cheapest.chosen (two-equal _ _) in
      (division, (chosen.division, is), chosen.least)

  pub fills-width : options.justify ≡ true → HoldsOfEach options (FillsWidth options)
  fills-width justify ending true first lines text plain is = tt
  fills-width justify ending false first lines text plain (division, divided, is) =
      grind (arith, cases_Bool, divided-is, printed-words, lines-as-wide)
