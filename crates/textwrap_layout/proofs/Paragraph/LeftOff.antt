-- What is left off the lines of a paragraph, the line of a whole one, and the blanks at its end.
use Rattle.textwrap_text.proofs.Common.{without_final_blanks, false_from_ne_true, IsUtf8-from_ascii}
use Rattle.textwrap_text.proofs.Common.{take-append-drop, nil_from_length, length-append, MatchBool}
use Rattle.textwrap_text.proofs.Common.{append_assoc, final_blanks, get_or-drop, length-drop, arith}
use Rattle.textwrap_text.proofs.Common.{slice_range, trimmed_len, append-nil, length-map, and_parts}
use Rattle.textwrap_text.proofs.Common.{map-append, true≢false, drop_more, All-cons, All-head, Bool}
use Rattle.textwrap_text.proofs.Common.{All-tail, add-zero, cases_lt, drop_all, eqb-true, flat_map}
use Rattle.textwrap_text.proofs.Common.{is_blank, not-true, All-nil, take_at, IsUtf8, get_or, false}
use Rattle.textwrap_text.proofs.Common.{is_cut, length, rules, subst, List, cond, drop, refl, true}
use Rattle.textwrap_text.proofs.Common.{zero, ◌++◌, All, inl, inr, map, suc, sym, ◌+◌, ◌-◌, ◌<◌, []}
use Rattle.textwrap_text.proofs.Common.{◌∙◌, ◌∷◌, ◌≡◌, ◌≤◌, ap, ℕ}
use Rattle.textwrap_layout.proofs.Common.{IsNarrowWord-measured, AreParagraphParts, AreDividedParts}
use Rattle.textwrap_layout.proofs.Common.{keeps_whitespace, assembled_line, BeforeOthers, LineParts}
use Rattle.textwrap_layout.proofs.Common.{HasNoPenalty, IsNarrowWord, closed_width, tiled-append}
use Rattle.textwrap_layout.proofs.Common.{broken_word, later_width, IsMeasured, covered_by, covered}
use Rattle.textwrap_layout.proofs.Common.{last_piece, last_space, line_bytes, parts_from, indent_of}
use Rattle.textwrap_layout.proofs.Common.{is_cut_by, line_from, pieces_of, word_view, Settings}
use Rattle.textwrap_layout.proofs.Common.{Splitter, WordText, is_whole, parts_by, parts_of, tile_of}
use Rattle.textwrap_layout.proofs.Common.{sizes_of, words_of, word_of, Slice, tiled, Word}
use Rattle.textwrap_words.proofs.Word.Texts.{final_blanks-blank, trimmed-front, trimmed-past}
use Rattle.textwrap_words.proofs.Word.Texts.{AreBlanks}
use Rattle.textwrap_words.proofs.Word.Words.{closed_width-narrow, tiled-words_of, EndsInBlanks}
use Rattle.textwrap_words.proofs.Word.Words.{no_blanks}
use Rattle.textwrap_text.proofs.Lists.Parts.{all-right, all-left}
use Rattle.textwrap_layout.proofs.Paragraph.Pieces.{pieces_of_words-measured, pieces_of-no_penalty}
use Rattle.textwrap_layout.proofs.Paragraph.Pieces.{split_words-measured, broken_words-ends}
use Rattle.textwrap_layout.proofs.Paragraph.Pieces.{split_words-no_penalty}
use Rattle.textwrap_layout.proofs.Paragraph.Room.{fitting-plain}
use Rattle.textwrap_layout.proofs.Paragraph.Pieces.{last_piece-append, last_space-append}
use Rattle.textwrap_layout.proofs.Paragraph.Pieces.{split_word-ends, flat_map-space, pieces_of-tile}
use Rattle.textwrap_layout.proofs.Paragraph.Pieces.{words_of-texts}
use Rattle.textwrap_words.proofs.Word.Parts.{parts_by-some, blank-words}
use Rattle.textwrap_words.proofs.Word.SplitParts.{point-none}
use Rattle.textwrap_words.proofs.Word.FirstPieces.{parts-front}
use Rattle.textwrap_layout.proofs.PrintableTexts.Parts.{first-part, slice-rest}
use Rattle.textwrap_words.proofs.Word.Pieces.{split_pieces_of}
use Rattle.std.proofs.lemmas.Str.Ascii.{IsAscii-from_all}

-- ---- what is left off the lines of a division

-- only blanks are left off, and nothing where blanks are preserved
pub record LeavesBlanks (settings : Settings) (p : LineParts) : Type 0 where
  pub blanks : AreBlanks p.left_off
  pub kept : settings.preserve_trailing_space ≡ true → p.left_off ≡ []

-- the parts of a line, by whether its last whitespace is kept
abbrev pub parts_keeping : Settings → Bool → List WordText → WordText → Bool → LineParts
parts_keeping settings is_later line last keeps = record {
  pieces = line;
  indent = indent_of settings is_later;
  slice = cond keeps (tiled line) (covered line);
  penalty = last.penalty;
  left_off = cond keeps [] last.whitespace;
}

pub covered-last : (w : WordText) (ws : List WordText)
    → covered (w ∷ ws) ++ (last_piece w ws).whitespace ≡ tiled (w ∷ ws)
covered-last w [] = sym (append-nil (tile_of w))
covered-last w (v ∷ ws) = search (rules, append_assoc, covered-last v ws)

pub parts_of-tile : (settings : Settings) (is_later : Bool) (line : List WordText)
    → (parts_of settings is_later line).slice ++ (parts_of settings is_later line).left_off
    ≡ tiled line
parts_of-tile settings is_later [] = refl
parts_of-tile settings is_later (w ∷ ws) = search (rules, append-nil, covered-last)

last_piece-blanks : (w : WordText) (ws : List WordText) → All EndsInBlanks (w ∷ ws)
    → EndsInBlanks (last_piece w ws)
last_piece-blanks w [] all = All-head EndsInBlanks w [] all
last_piece-blanks w (v ∷ ws) all = last_piece-blanks v ws (All-tail EndsInBlanks w (v ∷ ws) all)

keeping-blanks : (settings : Settings) (is_later : Bool) (line : List WordText) (last : WordText)
    → EndsInBlanks last → (keeps : Bool) → keeps_whitespace settings last ≡ keeps
    → LeavesBlanks settings (parts_keeping settings is_later line last keeps)
keeping-blanks settings is_later line last ending true is = search (rules, no_blanks)
keeping-blanks settings is_later line last ending false is = search rules

parts_of-blanks : (settings : Settings) (is_later : Bool) (line : List WordText)
    → All EndsInBlanks line → LeavesBlanks settings (parts_of settings is_later line)
parts_of-blanks settings is_later [] all = record { blanks = no_blanks; kept = λ _. refl }
parts_of-blanks settings is_later (w ∷ ws) all = search (rules, keeping-blanks, last_piece-blanks)

pub covered_by-parts_from : (settings : Settings) (is_later : Bool) (division : List (List WordText))
    → covered_by (parts_from settings is_later division) ≡ tiled (flat_map (λ line. line) division)
covered_by-parts_from settings is_later [] = refl
covered_by-parts_from settings is_later (line ∷ lines) =
    search (rules, parts_of-tile, tiled-append, covered_by-parts_from settings true lines)

pub parts_from-blanks : (settings : Settings) (is_later : Bool) (division : List (List WordText))
    → All EndsInBlanks (flat_map (λ line. line) division)
    → All (LeavesBlanks settings) (parts_from settings is_later division)
parts_from-blanks settings is_later [] all = All-nil (LeavesBlanks settings)
parts_from-blanks settings is_later (line ∷ lines) all =
    All-cons (LeavesBlanks settings) (parts_of settings is_later line)
    (parts_from settings true lines) (search (rules, parts_of-blanks, all-left))
    (parts_from-blanks settings true lines
    (all-right EndsInBlanks line (flat_map (λ l. l) lines) all))

pub tiled-word_of : (text : List ℕ) → tiled (word_of text ∷ []) ≡ text
tiled-word_of text = append-nil (tile_of (word_of text)) ∙ take-append-drop (trimmed_len text) text

pub word_of-blanks : (text : List ℕ) → EndsInBlanks (word_of text)
word_of-blanks text = search (rules, final_blanks-blank, true≢false)

-- ---- the line of a whole paragraph

pub last_piece-no_penalty : (w : WordText) (ws : List WordText) → All HasNoPenalty (w ∷ ws)
    → HasNoPenalty (last_piece w ws)
last_piece-no_penalty w [] all = All-head HasNoPenalty w [] all
last_piece-no_penalty w (v ∷ ws) all =
    last_piece-no_penalty v ws (All-tail HasNoPenalty w (v ∷ ws) all)

-- the bytes of a line without penalty
pub bytes-assembled : (indent slice : List ℕ)
    → line_bytes (assembled_line indent slice []) ≡ indent ++ slice
bytes-assembled [] slice = refl
bytes-assembled (c ∷ indent) slice = grind (arith, append-nil)

-- the line of pieces without penalties
pub assembled-parts : (settings : Settings) (is_later : Bool) (w : WordText) (ws : List WordText)
    → All HasNoPenalty (w ∷ ws)
    → assembled_line (indent_of settings is_later)
    (cond settings.preserve_trailing_space (tiled (w ∷ ws)) (covered (w ∷ ws))) []
    ≡ line_from (parts_of settings is_later (w ∷ ws))
assembled-parts settings is_later w ws none = grind (arith, last_piece-no_penalty)

-- pieces without penalties on a line without indent
pub line_from-pieces : (settings : Settings) (is_later : Bool) (ws : List WordText)
    → indent_of settings is_later ≡ [] → All HasNoPenalty ws
    → line_from (parts_of settings is_later ws) ≡ Slice
    (cond settings.preserve_trailing_space (tiled ws) (covered ws))
line_from-pieces settings is_later [] unindented none = grind arith
line_from-pieces settings is_later (w ∷ ws) unindented none =
    search (rules, arith, assembled-parts settings is_later w ws none)

pub whole_unindented : (settings : Settings) (is_later : Bool) (paragraph : List ℕ)
    → is_whole settings is_later paragraph ≡ true → indent_of settings is_later ≡ []
whole_unindented settings is_later paragraph whole =
    nil_from_length (indent_of settings is_later) (search (rules, arith, eqb-true, and_parts))

pub line_from-whole : (settings : Settings) (is_later : Bool) (paragraph : List ℕ)
    → is_whole settings is_later paragraph ≡ true
    → line_from (parts_of settings is_later (word_of paragraph ∷ [])) ≡ Slice
    (cond settings.preserve_trailing_space paragraph (without_final_blanks paragraph))
line_from-whole settings is_later paragraph whole =
    grind (arith, line_from-pieces, whole_unindented, All-cons, All-nil, tiled-word_of)

-- what holds of the line of the whole paragraph, and of the divisions, holds of the lines
pub laid_out-cases : (P : List (List WordText) → Type 0) (paragraph : List ℕ) (Divided : Type 0)
    (division : List (List WordText)) → P ((word_of paragraph ∷ []) ∷ []) → (Divided → P division)
    → (whole : Bool) → MatchBool whole (division ≡ (word_of paragraph ∷ []) ∷ []) Divided
    → P division
laid_out-cases P paragraph Divided division one divided true is = subst P (sym is) one
laid_out-cases P paragraph Divided division one divided false is = divided is

pub AreParagraphParts-whole : (settings : Settings) (Divides : Bool → List ℕ
    → List (List WordText) → Type 0) (is_later : Bool) (paragraph : List ℕ)
    → is_whole settings is_later paragraph ≡ true
    → AreParagraphParts settings Divides is_later paragraph
    (parts_of settings is_later (word_of paragraph ∷ []) ∷ [])
AreParagraphParts-whole settings Divides is_later paragraph whole =
    let division = (word_of paragraph ∷ []) ∷ [] in (division, rw whole refl, refl)

pub AreParagraphParts-divided : (settings : Settings) (Divides : Bool → List ℕ
    → List (List WordText) → Type 0) (is_later : Bool) (paragraph : List ℕ) (parts : List LineParts)
    → is_whole settings is_later paragraph ≡ false
    → AreDividedParts settings Divides is_later paragraph parts
    → AreParagraphParts settings Divides is_later paragraph parts
AreParagraphParts-divided settings Divides is_later paragraph parts longer
    (division, divided, is) = grind arith

-- ---- the line of pieces of which the last is known

-- the same line by its last piece
abbrev parts_ending : Settings → Bool → List WordText → WordText → LineParts
parts_ending settings is_later line last =
    parts_keeping settings is_later line last (keeps_whitespace settings last)

pub parts_of-push : (settings : Settings) (is_later : Bool) (ws : List WordText) (last : WordText)
    → parts_of settings is_later (ws ++ last ∷ []) ≡ parts_ending settings is_later
    (ws ++ last ∷ []) last
parts_of-push settings is_later [] last = refl
parts_of-push settings is_later (w ∷ ws) last = search (rules, last_piece-append)

-- a line made of the slice that its pieces cover
pub line_from-parts_of : (settings : Settings) (is_later : Bool) (pieces front : List Word)
    (last : Word) (indent slice : List ℕ) (keeps : Bool) → pieces ≡ front ++ last ∷ []
    → indent ≡ indent_of settings is_later
    → keeps ≡ keeps_whitespace settings (word_view last)
    → slice ≡ cond keeps (tiled (map word_view (front ++ last ∷ [])))
    (covered (map word_view (front ++ last ∷ [])))
    → assembled_line indent slice last.penalty.now
    ≡ line_from (parts_of settings is_later (map word_view pieces))
line_from-parts_of settings is_later pieces front last indent slice keeps is indent_is keeps_is
    slice_is = search (rules, map-append, parts_of-push)

-- ---- a text that is cut only before bytes that are no blanks

module _ (test : ℕ → Bool) (text : List ℕ) (before : BeforeOthers test text) where
  abbrev parts_at : ℕ → List (List ℕ)
  parts_at at = parts_by test at (drop at text)

  abbrev HasSpace : ℕ → Type 0
  HasSpace at = last_space (map word_of (parts_at at)) ≡ final_blanks (drop at text)

  space-end : (at : ℕ) → length text ≤ at → HasSpace at
  space-end at past = search (rules, arith, drop_all)

  parts-some : (at : ℕ) → at < length text → 0 < length (map word_of (parts_at at))
  parts-some at inside =
      subst (λ l. 0 < length (map word_of (parts_by test at l))) (sym (drop_more text at 0 inside))
      (omega (
        arith,
        parts_by-some test at (get_or text at 0) (drop (at + 1) text),
        length-map (parts_by test at (get_or text at 0 ∷ drop (at + 1) text)) word_of,
      ))

  space-from : (n at : ℕ) → length text ≤ at + n → HasSpace at
  space-from zero at short = space-end at (omega (arith, short))
  space-from (suc n) at short = elim (cases_lt at (length text)) [
    | inr past ↦ space-end at past
    | inl inside ↦
        let found = first-part test text at at (omega arith) inside
        (λ k from to. absurd (omega (arith, from, to))) in
        let end = found.end in
        let some = found.part.some in
        let q = slice_range text at end in
        let back = drop end text in
        let whole = slice-rest text at end (omega (arith, some)) in
        let parts = ap (λ ps. last_space (map word_of ps)) (parts-front test text at end found.part) in
        let rest = space-from n end (omega (arith, short, some)) in
        elim (cases_lt end (length text)) [
          | inl more ↦
              let byte = get_or-drop end text 0 0 ∙ ap (λ k. get_or text k 0) (add-zero end) in
              let other = trimmed-past back 0 (omega (arith, length-drop end text, more))
              (ap is_blank byte
              ∙ before end (omega (arith, some)) more (found.part.ends more)) in
              parts
              ∙ last_space-append (word_of q ∷ []) (map word_of (parts_at end)) (parts-some end more)
              ∙ rest ∙ sym (trimmed-front q back other).1 ∙ ap final_blanks whole
          | inr last ↦
              let none = drop_all end text last in
              parts ∙ ap (λ l. last_space (word_of q ∷ map word_of (parts_by test end l))) none
              ∙ ap final_blanks (sym (append-nil q) ∙ ap (λ l. q ++ l) (sym none) ∙ whole)
        ]
  ]

  -- the last part from a place on has the blanks at the end of the text
  pub last-part : (at : ℕ) → HasSpace at
  last-part at = space-from (length text) at (omega arith)

-- ---- a text whose words are cut so, and by a splitter

-- the points of a splitter do not stand before blanks
pub cut_by-others : (cuts : ℕ → Bool) (splitter : Splitter) (text : List ℕ)
    → BeforeOthers cuts text → BeforeOthers (is_cut_by cuts splitter text) text
cut_by-others cuts splitter text before k some inside is =
    search (rules, arith, false_from_ne_true, point-none)

-- ---- the words of a line

pub words_of-space : (line : List ℕ) → last_space (words_of line) ≡ final_blanks line
words_of-space line =
    let test : ℕ → Bool = λ k. is_cut (get_or line (k - 1) 0) (get_or line k 0) in
    ap last_space (blank-words line)
    ∙ last-part test line (λ k some inside is. not-true _ (and_parts _ _ is).1) 0

-- ---- the last piece of a paragraph

split_pieces_of-space : (splitter : Splitter) (paragraph : List ℕ)
    → last_space (split_pieces_of splitter paragraph) ≡ final_blanks paragraph
split_pieces_of-space splitter paragraph = simp (flat_map-space, split_word-ends, words_of-space)

-- where no empty word stands in front
pub pieces_of-space : (settings : Settings) (splitter : Splitter)
    (paragraph : List ℕ) → IsUtf8 paragraph → settings.initial_indent ≡ []
    → last_space (pieces_of settings splitter paragraph) ≡ final_blanks paragraph
pieces_of-space settings splitter paragraph utf8 unindented =
    let split = split_pieces_of splitter paragraph in
    let limit = later_width settings in
    let texts = words_of-texts paragraph utf8 in
    let ends = broken_words-ends limit split
    (split_words-measured settings splitter paragraph (words_of paragraph) utf8 texts) in
    let space = flat_map-space (broken_word limit) split ends in
    let plain = fitting-plain settings split
    (split_words-no_penalty settings splitter paragraph (words_of paragraph) utf8 texts) in
    search (rules, arith, space, plain, split_pieces_of-space splitter paragraph)

pub covered-space : (ws : List WordText) → covered ws ++ last_space ws ≡ tiled ws
covered-space [] = refl
covered-space (w ∷ ws) = covered-last w ws

-- words that tile a text and end as it does cover it without the blanks at its end
pub covered-tiled : (ws : List WordText) (text : List ℕ) → last_space ws ≡ final_blanks text
    → tiled ws ≡ text → covered ws ≡ without_final_blanks text
covered-tiled ws text space tile =
    search (rules, arith, covered-space ws, length-append, length-drop, take_at)

pub covered-words_of : (line : List ℕ) → covered (words_of line) ≡ without_final_blanks line
covered-words_of line = search (rules, covered-tiled, words_of-space, tiled-words_of)

-- ---- a paragraph closes within its bytes, so its pieces are one line

pub blanks-utf8 : (bytes : List ℕ) → AreBlanks bytes → IsUtf8 bytes
blanks-utf8 bytes blanks = search (rules, IsUtf8-from_ascii, IsAscii-from_all, eqb-true)

pub narrow_words : (ws : List WordText) → All IsMeasured ws → All HasNoPenalty ws
    → All IsNarrowWord ws
narrow_words ws measured none = search (rules, arith, IsNarrowWord-measured)

pub closed-pieces_of : (settings : Settings) (splitter : Splitter)
    (paragraph : List ℕ) → IsUtf8 paragraph
    → closed_width sizes_of (pieces_of settings splitter paragraph) ≤ length paragraph
closed-pieces_of settings splitter paragraph utf8 =
    let pieces = pieces_of settings splitter paragraph in
    let tile = pieces_of-tile settings splitter paragraph utf8 in
    let words = narrow_words pieces (pieces_of_words-measured settings splitter paragraph
    (words_of paragraph) utf8 (words_of-texts paragraph utf8))
    (pieces_of-no_penalty settings splitter paragraph utf8) in
    subst (λ l. closed_width sizes_of pieces ≤ length l) tile (closed_width-narrow pieces words)

pub same_line : (settings : Settings) (splitter : Splitter)
    (is_later : Bool) (paragraph : List ℕ) → IsUtf8 paragraph → settings.initial_indent ≡ []
    → indent_of settings is_later ≡ []
    → is_whole settings is_later paragraph ≡ true
    → line_from (parts_of settings is_later (pieces_of settings splitter paragraph))
    ≡ line_from (parts_of settings is_later (word_of paragraph ∷ []))
same_line settings splitter is_later paragraph utf8 unindented without whole =
    line_from-pieces settings is_later (pieces_of settings splitter paragraph) without
    (pieces_of-no_penalty settings splitter paragraph utf8)
    ∙ ap Slice (search (rules, covered-tiled, pieces_of-space, pieces_of-tile))
    ∙ sym (line_from-whole settings is_later paragraph whole)
