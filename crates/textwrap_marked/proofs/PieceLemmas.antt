-- Words that are joined and cut are the pieces.
use Rattle.std.proofs.lemmas.List.{get_or_at}
use Rattle.textwrap_marked.proofs.Common.{List, None, Some, cond, drop, refl, take, true, ◌++◌, not, sym}
use Rattle.textwrap_marked.proofs.Common.{ReflowOptions, length-append, parts_between, append_assoc, Bool}
use Rattle.textwrap_marked.proofs.Common.{cuts_from, flat_map, AreCuts, take_at, IsUtf8, Option, get_or}
use Rattle.textwrap_marked.proofs.Common.{is_cut, length, ne_eqb, pieces, arith, blank, false, subst, ap₂}
use Rattle.textwrap_marked.proofs.Common.{slice_range, append-nil, onto_front, with_blank, with_words, []}
use Rattle.textwrap_marked.proofs.Common.{◌+◌, ◌-◌, ◌<◌, ◌∙◌, ◌∷◌, ◌≡◌, ◌≤◌, ap, ℕ}
use Rattle.textwrap_marked.specs.Pieces.{IsJoined}
use Rattle.textwrap_marked.specs.Pieces.{is_kept_together, is_cut_behind, cuts_behind, with_next, Joined}
use Rattle.textwrap_text.proofs.Common.{IsCharBoundary-after_ascii, IsCharBoundary, drop_at}
use Rattle.textwrap_words.{proofs.Word.Cuts.inner-cuts, specs.Cuts.AreLaterCuts, specs.Cuts.parts_onward}

pub onto_front-twice : (first second : List ℕ) (parts : List (List ℕ))
    → onto_front first (onto_front second parts) ≡ onto_front (first ++ second) parts
onto_front-twice first second [] = refl
onto_front-twice first second (part ∷ parts) =
    ap (λ l. l ∷ parts) (sym (append_assoc first second part))

module _ (options : ReflowOptions) (starred : Bool) where
  pub onto_front-nil : (word : List ℕ) (words : List (List ℕ))
      → onto_front [] (pieces options starred (word ∷ words)) ≡ pieces options starred (word ∷ words)
  onto_front-nil word words =
      let later = pieces options starred words in
      elim (is_cut options starred word words) as (λ b.
      onto_front [] (cond b (with_blank word ∷ later) (onto_front (with_blank word) later))
      ≡ cond b (with_blank word ∷ later) (onto_front (with_blank word) later)) [
        | true ↦ refl
        | false ↦ elim later as (λ l. onto_front [] (onto_front (with_blank word) l)
            ≡ onto_front (with_blank word) l) [ [] ↦ refl | part ∷ parts ↦ refl ]
      ]

  -- after a text that was cut, and words of the same piece
  parts-pieces : (text front chunk word : List ℕ) (words : List (List ℕ)) (start at : ℕ)
      → start ≡ length front → at ≡ length front + length chunk
      → text ≡ front ++ (chunk ++ flat_map with_blank (word ∷ words))
      → parts_onward start (cuts_from options starred at (word ∷ words)) text
      ≡ onto_front chunk (pieces options starred (word ∷ words))
  parts-pieces text front chunk word [] start at s a is =
      ap (λ l. l ∷ []) (ap (drop start) (is ∙ ap (λ l. front ++ (chunk ++ l)) (append-nil (with_blank word)))
      ∙ drop_at front (chunk ++ with_blank word) start (sym s))
  parts-pieces text front chunk word (next ∷ words) start at s a is =
      let piece = with_blank word in
      let rest = flat_map with_blank (next ∷ words) in
      let end = at + length piece in
      let long : length (chunk ++ piece) ≡ length chunk + length piece = length-append chunk piece in
      let whole : text ≡ front ++ ((chunk ++ piece) ++ rest) =
      is ∙ ap (λ l. front ++ l) (sym (append_assoc chunk piece rest)) in
      let later = pieces options starred (next ∷ words) in
      let cuts = cuts_from options starred end (next ∷ words) in
      elim (is_cut options starred word (next ∷ words)) as (λ b.
      parts_onward start (cond b (end ∷ cuts) cuts) text
      ≡ onto_front chunk (cond b (piece ∷ later) (onto_front piece later))) [
        | true ↦
            let cut : slice_range text start end ≡ chunk ++ piece =
            ap (λ t. take (end - start) (drop start t)) whole
            ∙ ap (take (end - start)) (drop_at front ((chunk ++ piece) ++ rest) start (sym s))
            ∙ take_at (chunk ++ piece) rest (end - start) (omega (arith, a, s, long)) in
            let past = length-append front (chunk ++ piece) in
            ap (λ l. l ∷ parts_onward end cuts text) cut
            ∙ ap (λ l. (chunk ++ piece) ∷ l) (parts-pieces text (front ++ (chunk ++ piece)) [] next
            words end end (omega (arith, a, long, past)) (omega (arith, a, long, past))
            (whole ∙ sym (append_assoc front (chunk ++ piece) rest)) ∙ onto_front-nil next words)
        | false ↦ parts-pieces text front (chunk ++ piece) next words start end s
            (omega (arith, a, long)) whole ∙ sym (onto_front-twice chunk piece later)
      ]

  -- the text of words is cut into their pieces
  pub joined-pieces : (words : List (List ℕ))
      → parts_between (cuts_from options starred 0 words) (flat_map with_blank words)
      ≡ pieces options starred words
  joined-pieces [] = refl
  joined-pieces (word ∷ words) =
      let text = flat_map with_blank (word ∷ words) in
      let long : 0 < length text = omega (
        arith,
        length-append (with_blank word) (flat_map with_blank words),
        length-append word (blank ∷ []),
      ) in
      rw (ne_eqb (length text) 0 (omega (arith, long)))
      (parts-pieces text [] [] word words 0 0 refl (omega arith) refl ∙ onto_front-nil word words)

-- ---- the text of words may be cut between their pieces

module _ (options : ReflowOptions) (starred : Bool) where
  cuts-after : (text front : List ℕ) (words : List (List ℕ)) (at last : ℕ) → IsUtf8 text
      → at ≡ length front → last ≤ at → text ≡ front ++ flat_map with_blank words
      → AreLaterCuts last text (cuts_from options starred at words)
  cuts-after text front [] at last utf8 a le is = tt
  cuts-after text front (word ∷ []) at last utf8 a le is = tt
  cuts-after text front (word ∷ next ∷ words) at last utf8 a le is =
      let rest = flat_map with_blank (next ∷ words) in
      let before = front ++ word in
      let end = at + length (with_blank word) in
      let more = flat_map with_blank words in
      let long = length-append word (blank ∷ []) in
      let far = length-append front word in
      let past = length-append front (with_blank word) in
      let whole : text ≡ (front ++ with_blank word) ++ rest =
      is ∙ sym (append_assoc front (with_blank word) rest) in
      let split : text ≡ before ++ (blank ∷ rest) = whole ∙ simp append_assoc in
      let size : length text ≡ length before + length (blank ∷ rest) =
      ap length split ∙ length-append before (blank ∷ rest) in
      let some : 0 < length rest = omega (
        arith,
        length-append (with_blank next) more,
        length-append next (blank ∷ []),
      ) in
      let byte : get_or text (length before) 0 ≡ blank =
      ap (λ t. get_or t (length before) 0) split
      ∙ get_or_at before blank rest 0 (length before) refl in
      let edge : IsCharBoundary text (length before + 1) =
      IsCharBoundary-after_ascii text (length before) utf8 (omega (arith, size)) (omega (arith, byte)) in
      let same : length before + 1 ≡ end = omega (arith, far, long, a) in
      let later : (from : ℕ) → from ≤ end
      → AreLaterCuts from text (cuts_from options starred end (next ∷ words)) =
      λ from before. cuts-after text (front ++ with_blank word) (next ∷ words) end from utf8
      (omega (arith, past, a)) before whole in
      elim (is_cut options starred word (next ∷ words)) as (λ b. AreLaterCuts last text
      (cond b (end ∷ cuts_from options starred end (next ∷ words))
      (cuts_from options starred end (next ∷ words)))) [
        | true ↦ (
          (
            omega (arith, long),
            omega (arith, size, same, some),
            subst (IsCharBoundary text) same edge,
          ),
          later end (omega arith),
        )
        | false ↦ later last (omega (arith, le))
      ]

  pub joined-cuts : (words : List (List ℕ)) → IsUtf8 (flat_map with_blank words)
      → AreCuts (flat_map with_blank words) (cuts_from options starred 0 words)
  joined-cuts words utf8 =
      let text = flat_map with_blank words in
      inner-cuts text (cuts_from options starred 0 words)
      (cuts-after text [] words 0 0 utf8 refl (omega arith) refl)

-- ---- words that are joined, one after another

-- a place before others, or not
before-others : (is : Bool) (at : ℕ) (cuts : List ℕ)
    → cond is (at ∷ cuts) cuts ≡ cond is (at ∷ []) [] ++ cuts
before-others true at cuts = refl
before-others false at cuts = refl

behind-others : (is : Bool) (at : ℕ) (front cuts : List ℕ)
    → cond is (front ++ at ∷ []) front ++ cuts ≡ front ++ (cond is (at ∷ []) [] ++ cuts)
behind-others true at front cuts = append_assoc front (at ∷ []) cuts
behind-others false at front cuts = refl

module _ (options : ReflowOptions) (starred : Bool) where
  -- behind a word, if there is one, the next one tells whether a line may end
  cuts-next : (last : Option (List ℕ)) (at : ℕ) (front word : List ℕ) (words : List (List ℕ))
      → front ++ cuts_behind options starred last at (word ∷ words)
      ≡ cond (is_cut_behind options starred last word) (front ++ at ∷ []) front
      ++ cuts_from options starred at (word ∷ words)
  cuts-next None at front word words = refl
  cuts-next (Some last) at front word words =
      sym (behind-others (not (is_kept_together options starred last word)) at front
      (cuts_from options starred at (word ∷ words)))

  -- one word more is joined, and the whole stays the same with the words that are left
  pub joined-next : (joined : Joined) (word : List ℕ) (words : List (List ℕ))
      → with_words options starred (with_next options starred joined word) words
      ≡ with_words options starred joined (word ∷ words)
  joined-next joined word words =
      let text = joined.text ++ with_blank word in
      let at = length joined.text in
      let end = at + length (with_blank word) in
      let front = cond (is_cut_behind options starred joined.last word) (joined.cuts ++ at ∷ []) joined.cuts in
      let long : length text ≡ end = length-append joined.text (with_blank word) in
      ap₂ (λ t cs. (t, cs)) (append_assoc joined.text (with_blank word) (flat_map with_blank words))
      (ap (λ n. front ++ cuts_behind options starred (Some word) n words) long
      ∙ ap (λ cs. front ++ cs) (sym (before-others (is_cut options starred word words) end
      (cuts_from options starred end words)))
      ∙ sym (cuts-next joined.last at joined.cuts word words))

  cuts-none : (last : Option (List ℕ)) (at : ℕ) → cuts_behind options starred last at [] ≡ []
  cuts-none None at = refl
  cuts-none (Some word) at = refl

  -- with none left, and none at first, they are the words
  pub joined-all : (joined empty : Joined) (words : List (List ℕ)) → empty.text ≡ [] → empty.cuts ≡ []
      → empty.last ≡ None → with_words options starred joined [] ≡ with_words options starred empty words
      → IsJoined options starred words joined
  joined-all joined empty words text cuts last is = record {
    text = sym (append-nil joined.text) ∙ ap (λ w. w.0) is ∙ ap (λ t. t ++ flat_map with_blank words) text;
    cuts = sym (append-nil joined.cuts)
        ∙ ap (λ cs. joined.cuts ++ cs) (sym (cuts-none joined.last (length joined.text)))
        ∙ ap (λ w. w.1) is
        ∙ (λ i. cuts i ++ cuts_behind options starred (last i) (length (text i)) words);
  }
