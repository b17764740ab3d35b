-- What is printed of the blocks of a text, read again: the lines and the blocks that stay.
use Rattle.std.proofs.Math.Bool.{and-true}
use Rattle.textwrap_marked.specs.Reflow.{kept_text}
use Rattle.textwrap_marked_laws.proofs as own
use own.AnewLines.{content-return, anew-feedless, anew-content, passed-anew, anew-line, anew-text, kept-anew}
use own.Common.{AreOfBlocksWithin, take-append-drop, parts_of_blocks, without_returns, join_with_byte, Option}
use own.Common.{LineEnding, cases_Bool, suffix_len, IsOfBlock, LineRange, StateText, ending_if, is_beside, []}
use own.Common.{Some, drop, flat, refl, true, ◌&&◌, ◌++◌, ◌||◌, All, inl, inr, map, not, sym, ◌+◌, ◌-◌, ◌∙◌}
use own.Common.{is_return, kept_line, All-cons, All-head, All-tail, IsSameBy, LineText, as_title, flat_map, ℕ}
use own.Common.{touches, length, lt-ltb, nat_lt, passed, arith, codes, false, stays, subst, Bool, List, None}
use own.Common.{words_of_lines, ReflowOptions, AreSameParts, append_assoc, line_as_read, AreOfBlocks, entered}
use own.TextParts.{title-heads, stops-same, AreBlocks, head-same, join-more, part-cons, AreHeads, part_of}
use own.{AnewLines.{last-anew, return_if, anew_raw, one-anew, IsTold, Tells, anew}, Common.{◌∷◌, ◌≡◌, ap}}
use own.{BegunAlike.{ends-word, AreBegun}, Feedless.IsFeedless, FenceLeft.{safe-passed, returned, IsSafe}}
use own.{LinesAlone.{more-alike, AreAlike}, TextBlocks.{last_line, read-more, title_of, line_at, peel, read}}
use own.{SpacedBack.words_in, WordEnds.{filled-last, ends_as}}

-- the first line in the place of one that stays
anew-begun : (e : Option LineEnding) (returns : Bool) (raw : List ℕ) (raws news : List (List ℕ))
    → nat_lt 0 (length raws) ≡ nat_lt 0 (length news)
    → AreBegun returns (raw ∷ raws) (anew_raw e returns (nat_lt 0 (length raws)) raw ∷ news)
anew-begun None returns raw raws news same = inl (refl, same)
anew-begun (Some e) returns raw raws news same = let fed = nat_lt 0 (length raws) in inr (record {
  common = without_returns raw;
  old_end = drop (length raw - suffix_len is_return raw) raw;
  new_end = return_if (returns && fed);
  old = sym (take-append-drop (length raw - suffix_len is_return raw) raw);
  is = refl;
  old_ends = returned raw;
  new_ends = ends-word [] (returns && fed) tt;
  ends = λ some. content-return raw (returns && fed) ∙ ap (λ b. returns && b) (same ∙ some)
      ∙ and-true returns;
})

module _ (options : ReflowOptions) (returns : Bool) (told : IsTold options.ending returns) where
  abbrev pub ending : List ℕ
  ending = return_if returns ++ 10 ∷ []

  -- the lines of a new text: those that are read of it, before its blocks
  pub record IsReadBack (state : StateText) (beside : Bool) (news : List LineText) (bs : List (List LineText))
      (raws : List (List ℕ)) (text : List ℕ) : Type 0 where
    pub again : List (List ℕ)
    pub blocks : List (List LineText)
    pub reads : news ++ flat blocks ≡ read options state again
    pub are : AreBlocks blocks
    pub same : (e : Option LineEnding) → Tells options.ending e
        → AreSameParts e (parts_of_blocks beside bs) (parts_of_blocks beside blocks)
    pub text_is : text ≡ join_with_byte 10 again
    pub feedless : All IsFeedless again
    pub heads : AreHeads (flat bs) (flat blocks)
    pub some : nat_lt 0 (length again) ≡ nat_lt 0 (length raws)
    pub begun : AreBegun returns raws again
    pub alike : AreAlike options raws again

  -- one block after the other: those that stay, and others or none, are as they were
  abbrev pub AreOfBlocksAny : Bool → List (List LineText) → List ℕ → Type 0
  AreOfBlocksAny beside [] text = text ≡ []
  AreOfBlocksAny beside ([] ∷ bs) text = AreOfBlocksAny beside bs text
  AreOfBlocksAny beside ((first ∷ lines) ∷ bs) text =
      (is_kept : Bool) × (stays (beside || is_beside first bs) first ≡ true → is_kept ≡ true)
      × (front : List ℕ) × (back : List ℕ) × IsOfBlock options ending is_kept first (first ∷ lines) front
      × AreOfBlocksAny (is_beside first bs) bs back × (text ≡ front ++ back)

  pub laid-any : (bs : List (List LineText)) (beside : Bool) (text : List ℕ)
      → AreOfBlocks options ending beside bs text → AreOfBlocksAny beside bs text
  laid-any [] beside text laid = laid
  laid-any ([] ∷ bs) beside text laid = laid-any bs beside text laid
  laid-any ((first ∷ lines) ∷ bs) beside text (front, back, of, later, is) =
      grind (arith, cases_Bool, laid-any bs (is_beside first bs) back later)

  pub within-any : (range : LineRange) (start : ℕ) (bs : List (List LineText)) (beside : Bool) (text : List ℕ)
      → AreOfBlocksWithin options range ending start beside bs text → AreOfBlocksAny beside bs text
  within-any range start [] beside text laid = laid
  within-any range start ([] ∷ bs) beside text laid = within-any range start bs beside text laid
  within-any range start ((first ∷ lines) ∷ bs) beside text (front, back, of, later, is) =
      let end = start + length (first ∷ lines) in (
        stays (beside || is_beside first bs || not (touches range start end)) first,
        more first.apart first.chosen beside (is_beside first bs) (not (touches range start end)),
        front,
        back,
        of,
        within-any range end bs (is_beside first bs) back later,
        is,
      )
    where
      more : (a c b n o : Bool) → (a || not c || (b || n)) ≡ true → (a || not c || (b || n || o)) ≡ true
      more a c b n o is = grind (arith, cases_Bool)

  abbrev pub Walks : Bool → List (List LineText) → Type 0
  Walks beside bs =
      (state : StateText) (raws : List (List ℕ)) (text : List ℕ) → flat bs ≡ read options state raws
      → AreOfBlocksAny beside bs text → IsSafe options state → All IsFeedless raws
      → IsReadBack state beside [] bs raws text

  -- lines that stay, before blocks that are read again
  module _ (beside : Bool) (bs : List (List LineText)) (back : List ℕ) (walks : Walks beside bs)
      (laid : AreOfBlocksAny beside bs back) where
    anew-heads : (lines others : List LineText) → AreHeads (flat bs) others
        → AreHeads (lines ++ flat bs) (map (anew options.ending returns) lines ++ others)
    anew-heads [] others heads = heads
    anew-heads (line ∷ lines) others heads =
        head-same line (anew_raw options.ending returns line.fed line.raw)

    keep : (lines : List LineText) (state : StateText) (raws : List (List ℕ))
        → lines ++ flat bs ≡ read options state raws → IsSafe options state → All IsFeedless raws
        → IsReadBack state beside (map (anew options.ending returns) lines) bs raws
        (flat_map (kept_line options.ending) lines ++ back)
    keep [] state raws reads safe free = walks state raws back reads laid safe free
    keep (line ∷ lines) state raws reads safe free =
        let e = options.ending in
        let rest = lines ++ flat bs in
        let peeled = peel options state raws line rest reads in
        let raw = peeled.raw in
        let left = peeled.left in
        let fed = nat_lt 0 (length left) in
        let at = entered state (without_returns raw) in
        let here = line_at options state raw left in
        let all = subst (All IsFeedless) peeled.whole free in
        let later = keep lines (passed at here) left peeled.later (safe-passed options state raw fed safe)
        (All-tail IsFeedless raw left all) in
        let new = anew_raw e returns fed raw in
        let new_here = anew e returns here in
        let news = map (anew e returns) lines ++ flat later.blocks in
        let same : without_returns new ≡ without_returns raw = anew-content e returns fed raw in
        let behind : StateText → LineText → List LineText = λ s l.
        let ls = read options (passed s l) later.again in as_title (title_of l ls) l ∷ ls in
        subst (λ raws. IsReadBack state beside (map (anew e returns) (line ∷ lines)) bs raws
        (flat_map (kept_line e) (line ∷ lines) ++ back)) (sym peeled.whole) (record {
          again = new ∷ later.again;
          blocks = later.blocks;
          reads = ap (λ l. anew e returns l ∷ news) (peeled.here ∙ ap (λ b. as_title b here)
              (sym (title-heads here new_here rest news
              (anew-heads lines (flat later.blocks) later.heads) refl)))
              ∙ ap (λ ls. as_title (title_of new_here ls) new_here ∷ ls) later.reads
              ∙ ap (λ s. let ls = read options s later.again in as_title (title_of new_here ls) new_here ∷ ls)
              (sym (passed-anew at e returns here))
              ∙ ap (behind at) (sym (anew-line options at e returns raw fed))
              ∙ ap (λ b. behind at (line_as_read options at new b)) (sym later.some)
              ∙ ap (λ s. behind s (line_as_read options s new (nat_lt 0 (length later.again))))
              (sym (ap (entered state) same))
              ∙ sym (read-more options state new later.again);
          are = later.are;
          same = later.same;
          text_is = append_assoc (kept_line e line) (flat_map (kept_line e) lines) back
              ∙ ap (λ t. kept_line e line ++ t) later.text_is
              ∙ ap (λ t. t ++ join_with_byte 10 later.again) (anew-text e returns told raw fed line
              (ap (λ (l : LineText). l.raw) peeled.here) (ap (λ (l : LineText). l.fed) peeled.here))
              ∙ ap (λ b. (new ++ ending_if b (codes "\n")) ++ join_with_byte 10 later.again) (sym later.some)
              ∙ sym (join-more new later.again);
          feedless = All-cons IsFeedless new later.again
              (anew-feedless e returns fed raw (All-head IsFeedless raw left all)) later.feedless;
          heads = later.heads;
          some = lt-ltb 0 (length (new ∷ later.again)) (omega arith)
              ∙ sym (lt-ltb 0 (length (raw ∷ left)) (omega arith));
          begun = anew-begun e returns raw left later.again (sym later.some);
          alike = more-alike options raw new left later.again same later.alike;
        })

  -- a block that is as it was
  pub kept-step : (beside : Bool) (first : LineText) (lines : List LineText) (bs : List (List LineText))
      → Walks (is_beside first bs) bs → AreBlocks ((first ∷ lines) ∷ bs)
      → (state : StateText) (raws : List (List ℕ)) (front back : List ℕ)
      → (first ∷ lines) ++ flat bs ≡ read options state raws → front ≡ kept_text options (first ∷ lines)
      → AreOfBlocksAny (is_beside first bs) bs back → IsSafe options state → All IsFeedless raws
      → IsReadBack state beside [] ((first ∷ lines) ∷ bs) raws (front ++ back)
  kept-step beside first lines bs walks (one, stops, are) state raws front back reads is laid safe free =
      let k = keep (is_beside first bs) bs back walks laid (first ∷ lines) state raws reads safe free in
      let head = head-same first (anew_raw options.ending returns first.fed first.raw) in
      let last = last-anew options.ending returns first lines in record {
        again = k.again;
        blocks = map new (first ∷ lines) ∷ k.blocks;
        reads = k.reads;
        are = (
          one-anew options.ending returns first lines one,
          stops-same (last_line first lines) (last_line (new first) (map new lines)) bs k.blocks are k.are
              k.heads (record {
                hangs = ap (λ (l : LineText). l.hanging) last;
                ended = ap (λ (l : LineText). l.ended) last;
                apart = ap (λ (l : LineText). l.apart) last;
              }) stops,
          k.are,
        );
        same = λ e tells. part-cons e beside first (new first) lines
            (map new lines) bs k.blocks head are k.are
            k.heads (k.same e tells) (kept e tells (stays (beside || is_beside first bs) first));
        text_is = ap (λ l. l ++ back) is ∙ k.text_is;
        feedless = k.feedless;
        heads = head;
        some = k.some;
        begun = k.begun;
        alike = k.alike;
      }
    where
      new : LineText → LineText
      new line = anew options.ending returns line

      same-words : (lines : List LineText) → words_of_lines (map new lines) ≡ words_of_lines lines
      same-words [] = refl
      same-words (line ∷ lines) = ap (λ l. words_in line.words ++ l) (same-words lines)

      kept : (e : Option LineEnding) → Tells options.ending e → (b : Bool)
          → IsSameBy e b (part_of b first lines) (part_of b (new first) (map new lines))
      kept e tells true = (refl, kept-anew options.ending returns e tells (first ∷ lines))
      kept e tells false = (
        refl,
        record {
          prefix = refl;
          hanging = refl;
          starred = refl;
          words = same-words (first ∷ lines);
          end = λ ending. filled-last ending (new first) (map new lines)
              ∙ ap (ends_as ending) (last-anew options.ending returns first lines)
              ∙ sym (filled-last ending first lines);
        },
      )
