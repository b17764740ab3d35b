-- A paragraph that is laid out while its words are read has the lines of first fit.
use Rattle.std.proofs.Math.Bool.{and-true}
use Rattle.textwrap_base.proofs.Common.{open_width, IsGreedy}
use Rattle.textwrap_base.proofs.Division.Greedy.{closed_width-push, open_width-append}
use Rattle.textwrap_base.proofs.Division.Grown.{grown-begins, grown-greedy, is_full, grown}
use Rattle.textwrap_display.specs.Justifying.{justified}
use Rattle.textwrap_layout.proofs.Paragraph.{Covered.covered-push, Widths.later_is}
use Rattle.textwrap_layout.specs.Paragraph.{line_bytes}
use Rattle.textwrap_marked.proofs.Common.{ReflowOptions, append_assoc, final_blanks, append-nil, line_texts}
use Rattle.textwrap_marked.proofs.Common.{Some, cond, refl, true, ◌&&◌, ◌++◌, map, not, sym, ◌+◌, ◌<◌, ◌∙◌}
use Rattle.textwrap_marked.proofs.Common.{length, lt-ltb, nat_lt, pieces, arith, false, Bool, List, None, ℕ}
use Rattle.textwrap_marked.proofs.Common.{onto_front, option_map, with_blank, line_text, WordText, flat_map}
use Rattle.textwrap_marked.proofs.Common.{sizes_of, covered, is_some, printed, word_of, Option, is_cut, ap₂}
use Rattle.textwrap_marked.proofs.PieceLemmas.{onto_front-twice, onto_front-nil}
use Rattle.textwrap_marked.proofs.{Common.◌∷◌, Common.◌≡◌, Common.[], Common.ap, PrintedLines.texts_more}
use Rattle.textwrap_marked.specs.FirstFit.{FittingText, has_no_room, piece_width, fresh_line, shown_line}
use Rattle.textwrap_marked.specs.FirstFit.{with_next_piece, left_of_pieces, pieces_behind, columns_past}
use Rattle.textwrap_marked.specs.Pieces.{is_kept_together, is_cut_behind}
use Rattle.textwrap_marked.specs.declared.first_fit.ParagraphForm.{ParagraphForm}
use Rattle.textwrap_text.{proofs.Common.length_push, specs.Blanks.without_final_blanks}
use Rattle.textwrap_words.{proofs.Word.Words.tiled-push, specs.Words.tiled}

-- ---- the line that takes the next piece

abbrev HasColumns : Option ℕ → ℕ → List WordText → Type 0
HasColumns None blanks ps = ps ≡ []
HasColumns (Some columns) blanks ps = (0 < length ps) × (open_width sizes_of ps ≡ columns + blanks)

-- these pieces stand on the line
record Holds (line : FittingText) (ps : List WordText) : Type 0 where
  pub whole : tiled ps ≡ line.text ++ line.blanks
  pub text : covered ps ≡ line.text
  pub columns : HasColumns line.columns (length line.blanks) ps

columns-sum : (columns : Option ℕ) (blanks width : ℕ) (ps : List WordText) → HasColumns columns blanks ps
    → columns_past columns blanks width ≡ open_width sizes_of ps + width
columns-sum None blanks width ps none = rw none (omega arith)
columns-sum (Some columns) blanks width ps (some, is) = omega (arith, is)

past-full : (line : FittingText) (ps : List WordText) (piece : List ℕ) → Holds line ps
    → has_no_room line (piece_width piece) ≡ is_full sizes_of line.room ps (word_of piece)
past-full line ps piece holds = cut line.columns holds.columns
  where
    cut : (columns : Option ℕ) → HasColumns columns (length line.blanks) ps
        → has_no_room (record line { columns = columns }) (piece_width piece)
        ≡ is_full sizes_of line.room ps (word_of piece)
    cut None none = rw none refl
    cut (Some columns) (some, is) =
        let closed = closed_width-push sizes_of ps (word_of piece) in
        rw (lt-ltb 0 (length ps) some) (ap (nat_lt line.room) (omega (arith, is, closed)))

-- one piece more does
holds-more : (line : FittingText) (ps : List WordText) (piece : List ℕ) → Holds line ps
    → Holds (with_next_piece line piece) (ps ++ word_of piece ∷ [])
holds-more line ps piece holds = record {
  whole = tiled-push ps (word_of piece)
      ∙ ap (λ t. t ++ (without_final_blanks piece ++ final_blanks piece)) holds.whole
      ∙ sym (append_assoc (line.text ++ line.blanks) (without_final_blanks piece) (final_blanks piece));
  text = covered-push ps (word_of piece) ∙ ap (λ t. t ++ without_final_blanks piece) holds.whole;
  columns = (
    omega (arith, length_push ps (word_of piece)),
    omega (
      arith,
      open_width-append sizes_of ps (word_of piece ∷ []),
      columns-sum line.columns (length line.blanks) (piece_width piece) ps holds.columns,
    ),
  );
}

holds-none : (room : ℕ) → Holds (fresh_line room) []
holds-none room = record { whole = refl; text = refl; columns = refl }

-- ---- what is left is the lines of first fit

printed-behind : (ending hanging : List ℕ) (texts : List (List ℕ))
    → printed ending (ending ++ hanging) hanging texts
    ≡ flat_map (λ t. (ending ++ hanging) ++ t) texts
printed-behind ending hanging [] = refl
printed-behind ending hanging (text ∷ texts) = refl

module _ (form : ParagraphForm) where
  abbrev ending : List ℕ
  ending = form.ending.now

  abbrev hanging : List ℕ
  hanging = form.hanging.now

  abbrev justify : Bool
  justify = form.options.now.justify

  abbrev lines_of : ℕ → List (List ℕ) → List WordText → List (List WordText)
  lines_of room ps before = grown sizes_of form.room room (map word_of ps) before

  abbrev texts : ℕ → List (List WordText) → List (List ℕ)
  texts room lines = line_texts justify room form.room lines

  -- a line that others follow
  full-printed : (front rest : List ℕ) (line : FittingText) (before : List WordText)
      (next : List (List WordText)) → covered before ≡ line.text → 0 < length next
      → (ending ++ hanging) ++ rest ≡ printed ending (ending ++ hanging) hanging (texts form.room next)
      → front ++ (((shown_line justify line ++ ending) ++ hanging) ++ rest)
      ≡ printed ending front hanging (texts line.room (before ∷ next))
  full-printed front rest line before next text some is =
      let shown = shown_line justify line in
      let grouped : front ++ (((shown ++ ending) ++ hanging) ++ rest)
      ≡ (front ++ shown) ++ ((ending ++ hanging) ++ rest) = simp append_assoc in
      grouped ∙ ap (λ t. (front ++ shown) ++ t) (is ∙ printed-behind ending hanging (texts form.room next))
      ∙ ap (λ t. printed ending front hanging
      (cond justify (line_bytes (justified line.room t)) t ∷ texts form.room next)) (sym text)
      ∙ ap (λ b. printed ending front hanging (line_text b line.room before ∷ texts form.room next))
      (sym (ap (λ b. justify && b) (lt-ltb 0 (length next) some) ∙ and-true justify))
      ∙ ap (printed ending front hanging) (sym (texts_more justify line.room form.room before next))

  lines-printed : (front : List ℕ) (ps : List (List ℕ)) (line : FittingText) (before : List WordText)
      → Holds line before → front ++ left_of_pieces form line ps
      ≡ printed ending front hanging (texts line.room (lines_of line.room ps before))
  lines-printed front [] line before holds =
      ap (λ t. front ++ t) (sym holds.text) ∙ sym (append-nil (front ++ covered before))
  lines-printed front (p ∷ ps) line before holds =
      let next = lines_of form.room ps (word_of p ∷ []) in
      let same = lines_of line.room ps (before ++ word_of p ∷ []) in
      let (more, rest, begins) = grown-begins sizes_of form.room form.room (map word_of ps) (word_of p ∷ []) in
      let some : 0 < length next = omega (arith, ap length begins) in
      elim (has_no_room line (piece_width p)) as (λ b. is_full sizes_of line.room before (word_of p) ≡ b
      → front ++ cond b (((shown_line justify line ++ ending) ++ hanging)
      ++ left_of_pieces form (with_next_piece (fresh_line form.room) p) ps)
      (left_of_pieces form (with_next_piece line p) ps)
      ≡ printed ending front hanging (texts line.room (lines_of line.room (p ∷ ps) before))) [
        | true ↦ λ full.
            full-printed front (left_of_pieces form (with_next_piece (fresh_line form.room) p) ps) line before
            next holds.text some (lines-printed (ending ++ hanging) ps
            (with_next_piece (fresh_line form.room) p) (word_of p ∷ [])
            (holds-more (fresh_line form.room) [] p (holds-none form.room)))
            ∙ ap (λ b. printed ending front hanging (texts line.room (cond b (before ∷ next) same))) (sym full)
        | false ↦ λ room.
            lines-printed front ps (with_next_piece line p) (before ++ word_of p ∷ []) (holds-more line before p holds)
            ∙ ap (λ b. printed ending front hanging (texts line.room (cond b (before ∷ next) same))) (sym room)
      ] (sym (past-full line before p holds))

  -- the lines of a paragraph of these pieces
  pub pieces-greedy : (front : List ℕ) (room : ℕ) (ps : List (List ℕ))
      → (division : List (List WordText))
      × IsGreedy sizes_of (room ∷ form.room ∷ []) (map word_of ps) division
      × (front ++ left_of_pieces form (fresh_line room) ps
      ≡ printed ending front hanging (texts room division))
  pieces-greedy front room ps = (
    lines_of room ps [],
    grown-greedy sizes_of form.room (room ∷ form.room ∷ [])
        (λ n. later_is room form.room (n + 1) (omega arith)) room refl (map word_of ps),
    lines-printed front ps (fresh_line room) [] (holds-none room),
  )

-- ---- the words of the pieces

module _ (options : ReflowOptions) (starred : Bool) where
  -- a piece goes on with the next word
  word-kept : (piece word : List ℕ) (words : List (List ℕ))
      → onto_front piece (pieces options starred (word ∷ words))
      ≡ pieces_behind options starred (Some word) (piece ++ with_blank word) words
  word-kept piece word words =
      let later = pieces options starred words in
      elim (is_cut options starred word words) as (λ b.
      onto_front piece (cond b (with_blank word ∷ later) (onto_front (with_blank word) later))
      ≡ cond b ((piece ++ with_blank word) ∷ later) (onto_front (piece ++ with_blank word) later)) [
        | true ↦ refl
        | false ↦ onto_front-twice piece (with_blank word) later
      ]

  -- or ends before it
  pub word-next : (last : Option (List ℕ)) (piece word : List ℕ) (words : List (List ℕ))
      → pieces_behind options starred last piece (word ∷ words)
      ≡ cond (is_cut_behind options starred last word)
      (piece ∷ pieces_behind options starred (Some word) (with_blank word) words)
      (pieces_behind options starred (Some word) (piece ++ with_blank word) words)
  word-next None piece word words = word-kept piece word words
  word-next (Some last) piece word words =
      ap (cond (not (is_kept_together options starred last word))
      (piece ∷ pieces options starred (word ∷ words))) (word-kept piece word words)

  -- before the first word, they are the pieces of all words
  pub words-all : (words : List (List ℕ))
      → pieces_behind options starred None [] words ≡ pieces options starred words
  words-all [] = refl
  words-all (word ∷ words) = onto_front-nil options starred word words

  -- after the last word, the piece ends
  pub words-end : {X : Type 0} (view : X → List ℕ) (last : Option X) (piece : List ℕ)
      → pieces_behind options starred (option_map view last) piece []
      ≡ cond (is_some last) (piece ∷ []) []
  words-end view None piece = refl
  words-end view (Some last) piece = refl

-- ---- what is left of a paragraph

module _ (form : ParagraphForm) where
  abbrev left_behind : FittingText → Option (List ℕ) → List ℕ → List (List ℕ) → List ℕ
  left_behind line last piece words =
      left_of_pieces form line (pieces_behind form.options.now form.starred last piece words)

  word-left : (last : Option (List ℕ)) (piece word : List ℕ) (words : List (List ℕ)) (line : FittingText)
      (before : List ℕ) (is : Bool) → is_cut_behind form.options.now form.starred last word ≡ is
      → before ++ left_of_pieces form line (cond is
      (piece ∷ pieces_behind form.options.now form.starred (Some word) (with_blank word) words)
      (pieces_behind form.options.now form.starred (Some word) (piece ++ with_blank word) words))
      ≡ before ++ left_behind line last piece (word ∷ words)
  word-left last piece word words line before is told =
      ap (λ ps. before ++ left_of_pieces form line ps) (ap (λ b. cond b
      (piece ∷ pieces_behind form.options.now form.starred (Some word) (with_blank word) words)
      (pieces_behind form.options.now form.starred (Some word) (piece ++ with_blank word) words)) (sym told)
      ∙ sym (word-next form.options.now form.starred last piece word words))

  -- the piece ends before the next word
  pub read-cut : (line next : FittingText) (last : Option (List ℕ)) (piece taken done word : List ℕ)
      (before after : List ℕ) → is_cut_behind form.options.now form.starred last word ≡ true
      → taken ≡ piece → done ≡ with_blank word
      → ((ps : List (List ℕ)) → after ++ left_of_pieces form next ps
      ≡ before ++ left_of_pieces form line (taken ∷ ps)) → (words : List (List ℕ))
      → after ++ left_behind next (Some word) done words
      ≡ before ++ left_behind line last piece (word ∷ words)
  read-cut line next last piece taken done word before after is same reads takes words =
      takes (pieces_behind form.options.now form.starred (Some word) done words)
      ∙ ap₂ (λ t d. before ++ left_of_pieces form line
      (t ∷ pieces_behind form.options.now form.starred (Some word) d words)) same reads
      ∙ word-left last piece word words line before true is

  -- or goes on
  pub read-kept : (line : FittingText) (last : Option (List ℕ)) (piece done word before : List ℕ)
      → is_cut_behind form.options.now form.starred last word ≡ false → done ≡ piece ++ with_blank word
      → (words : List (List ℕ)) → before ++ left_behind line (Some word) done words
      ≡ before ++ left_behind line last piece (word ∷ words)
  read-kept line last piece done word before is reads words =
      ap (λ d. before ++ left_behind line (Some word) d words) reads
      ∙ word-left last piece word words line before false is

  -- a paragraph without pieces, to which these words come
  pub paragraph-lines : (line : FittingText) (piece old prefix before new : List ℕ) (words : List (List ℕ))
      → line.text ≡ [] → line.blanks ≡ [] → line.columns ≡ None → piece ≡ [] → before ≡ old ++ prefix
      → new ≡ before ++ left_behind line None piece words
      → (division : List (List WordText))
      × IsGreedy sizes_of (line.room ∷ form.room ∷ [])
      (map word_of (pieces form.options.now form.starred words)) division
      × (new ≡ old ++ printed form.ending.now prefix form.hanging.now
      (line_texts form.options.now.justify line.room form.room division))
  paragraph-lines line piece old prefix before new words text blanks columns none begins is =
      let all = pieces form.options.now form.starred words in
      let (division, greedy, shown) = pieces-greedy form prefix line.room all in
      let line_is : line ≡ fresh_line line.room =
      λ i. record { text = text i; blanks = blanks i; columns = columns i; room = line.room } in (
        division,
        greedy,
        is ∙ ap (λ p. before ++ left_behind line None p words) none
            ∙ ap₂ (λ l ps. before ++ left_of_pieces form l ps) line_is
            (words-all form.options.now form.starred words)
            ∙ ap (λ b. b ++ left_of_pieces form (fresh_line line.room) all) begins
            ∙ append_assoc old prefix (left_of_pieces form (fresh_line line.room) all)
            ∙ ap (λ t. old ++ t) shown,
      )
