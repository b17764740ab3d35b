-- What is printed of a paragraph before other blocks, read again.
use Rattle.std.proofs.Math.Bool.{and-true}
use Rattle.textwrap_marked.specs.Reflow.{IsFilled}
use Rattle.textwrap_marked_laws.specs.Laws.{IsSameParagraph, HasNoBarMark}
use Rattle.textwrap_marked_laws.proofs as own
use own.Common.{All-tail, AreShown, IsSameBy, LineText, as_title, fence_at, has_byte, entered, printed, arith}
use own.Common.{break_white, lines_alone, spaced_text, All-append, All-weaker, SpacedText, append-nil, length}
use own.Common.{filled_end, first_word, StateText, all-right, each-flat, ending_if, is_beside, All-head, List}
use own.Common.{lt-ltb, nat_lt, passed, false, stays, subst, flat, refl, true, ◌&&◌, ◌++◌, ◌||◌, All, ap₂, []}
use own.Common.{without_returns, words_of_lines, ReflowOptions, append_assoc, line_as_read, begins_text, Bool}
use own.LinesAlone.{AreTextLines, alike-append, shows-first, alone-skip, line-marks, not-alone, AreAlike}
use own.NewLines.{here-words, later_raws, new-behind, returns_at, end-white, text-ends, line_raw, raw-text}
use own.ParagraphLines.{first-unfenced, first-starred, IsFirstAlike, first-begins, first-hangs, first-keyed}
use own.TextBlocks.{first-of-words, as-title-none, AreTextWords, IsParagraph, last_line, read-more, title_of}
use own.{AnewLines.{returns-none, return-ends, return_if, IsTold}, Feedless.{IsFeedlessLine, IsFeedless}}
use own.{BegunAlike.{IsInPlace, ends-word, AreBegun}, LineWords.{AreCutInto, all_shown, MayPart, spread, gap}}
use own.{Common.{inr, sym, ◌∙◌, ◌∷◌, ◌≡◌, ap, ℕ}, WordEnds.{break-spaced, filled-last, spread-free, ends_as}}
use own.{FenceLeft.{still-left, safe-none, text-tail, EndsText, IsSafe}, OpenBehind.behind_text}
use own.{JustifiedTexts.lines-shown, TextParts.{title-heads, stops-same, AreBlocks, part-cons, part_of}}
use own.{LaterLines.{read-split, read_block, read_marks, IsOfText, read_as}, SpacedBack.{words_in, IsWhite}}
use own.{NewLines.text_end, SpreadWords.{spread-columns, spread-spaced, spread-first, spread-len, last_text}}
use own.{NewParts.divided-is, ReadBack.{AreOfBlocksAny, IsReadBack, ending, Walks}, TextBlocks.read}
use own.{ParagraphLines.{first-parts, first-text, first-new, IsNew}, PrintedText.{raws-feedless, text-joined}}

module _ (justify : Bool) (gaps : ℕ → ℕ) where
  -- what follows the first word of a line's text
  text-end : (word : List ℕ) (words : List (List ℕ)) (end : List ℕ) → All IsWhite end
      → (tail : List ℕ) × (spaced_text (spread justify gaps (word ∷ words) end) ≡ word ++ tail)
      × EndsText tail
  text-end word [] [] white = ([], append-nil (word ++ []), tt)
  text-end word [] (c ∷ end) white =
      (c ∷ end, append-nil (word ++ c ∷ end), All-head IsWhite c end white)
  text-end word (next ∷ words) end white =
      let white = gap justify gaps (length words) in
      let rest = spaced_text (spread justify gaps (next ∷ words) end) in
      (white ++ rest, append_assoc word white rest, refl)

-- where lines follow, the ending is the one that they have
followed : (justify : Bool) (wide : ℕ → ℕ → ℕ) (returns : Bool) (end hanging : List ℕ)
    (left : List (List ℕ)) (ls : List (List (List ℕ))) → let more = returns && nat_lt 0 (length left) in
    nat_lt 0 (length (later_raws justify wide returns more end hanging ls ++ left)) ≡ true
    → returns_at returns more ls ≡ returns
followed justify wide returns end hanging left [] some = ap (λ b. returns && b) some ∙ and-true returns
followed justify wide returns end hanging left (line ∷ ls) some = refl

words-feedless : (lines : List LineText) → All IsFeedlessLine lines → All IsFeedless (words_of_lines lines)
words-feedless lines all =
    each-flat IsFeedless (λ l. words_in l.words) lines (All-weaker IsFeedlessLine
    (λ l. All IsFeedless (words_in l.words)) (λ l is. is.words) lines all)

module _ (options : ReflowOptions) (returns : Bool) (told : IsTold options.ending returns) (state : StateText)
    (raw : List ℕ) (first : LineText) (lines : List LineText) (bs : List (List LineText))
    (p : IsParagraph options (entered state (without_returns raw)) raw first lines (flat bs)) (beside : Bool) where
  abbrev at : StateText
  at = entered state (without_returns raw)

  abbrev here : LineText
  here = read_as options at raw p.has p.fed

  abbrev block_here : Bool
  block_here = read_block options at raw p.has

  abbrev final : LineText
  final = last_line here lines

  abbrev end : List ℕ
  end = break_white final

  -- the marks of its prefix
  abbrev marks_shown : List (List ℕ)
  marks_shown = words_in (read_marks options at raw p.has)

  of-here : IsOfText options block_here here.hanging at here
  of-here = first-text options at raw p.fed p.has p.apart

  -- a line of other words behind that prefix, and lines behind it, show the marks and the words of all,
  -- and none of them stands for itself
  text-lines : (text : List ℕ) (line : LineText) (done : List (List ℕ)) (behind : List LineText)
      → IsOfText options block_here here.hanging at line
      → without_returns text ≡ here.prefix ++ spaced_text line.words → AreTextLines options done behind
      → AreShown options (text ∷ done) (marks_shown ++ words_of_lines (line ∷ behind))
      × (HasNoBarMark options → lines_alone options (text ∷ done) ≡ [])
  text-lines text line done behind of is later =
      let marks = read_marks options at raw p.has in
      let full = (first-parts options at raw p.fed p.has p.apart).0 in
      let own = words_in line.words in (
        (
          marks_shown ++ own,
          words_of_lines behind,
          shows-first (without_returns text) p.has.lead marks line.words p.has.text.white full of.spaced
              of.some is options,
          later.shown,
          sym (append_assoc marks_shown own (words_of_lines behind)),
        ),
        λ plain. alone-skip options text done (not-alone (without_returns text) p.has.lead marks line.words
            p.has.text.white full of.spaced of.some is options plain
            (line-marks options plain at.in_block p.has.cs p.has.qs p.has.bs p.has.ws p.has.have) of.starred
            of.begins of.columns) ∙ later.alone plain,
      )

  -- by lines of its words
  module _ (wide : ℕ → ℕ → ℕ) (word : List ℕ) (words later_words : List (List ℕ)) (ls : List (List (List ℕ)))
      (may : MayPart options here.starred (word ∷ words) later_words)
      (cut : AreCutInto options here.starred later_words ls)
      (parts : words_of_lines (here ∷ lines) ≡ (word ∷ words) ++ later_words) (back : List ℕ)
      (later : IsReadBack options returns told (behind_text block_here here.hanging final.words)
      (is_beside here bs) [] bs p.walked.left back) where
    abbrev more : Bool
    more = returns && nat_lt 0 (length later.again)

    abbrev gaps : ℕ → ℕ
    gaps = wide (length ls)

    abbrev tail : List ℕ
    tail = text_end end ls

    abbrev new_words : List SpacedText
    new_words = spread options.justify gaps (word ∷ words) tail

    -- the first of these lines, and the later ones
    abbrev new_raw : List ℕ
    new_raw = line_raw options.justify wide returns more end here.prefix (word ∷ words) ls

    abbrev later_lines : List (List ℕ)
    later_lines = later_raws options.justify wide returns more end here.hanging ls

    abbrev new : LineText
    new = line_as_read options at new_raw (nat_lt 0 (length (later_lines ++ later.again)))

    white : All IsWhite tail
    white = end-white end (break-spaced final p.walked.of.spaced) ls

    first-is : first_word p.has.ws ≡ word
    first-is = first-of-words p.has.ws (words_of_lines lines) word (words ++ later_words) of-here.some parts

    all : AreTextWords block_here ((word ∷ words) ++ later_words)
    all = subst (AreTextWords block_here) parts p.walked.words

    mine : AreTextWords block_here (word ∷ words)
    mine = here-words options block_here here.starred word words later_words ls cut all

    begins : begins_text here.starred word ≡ true
    begins = sym (ap (begins_text here.starred) first-is) ∙ first-begins options at raw p.fed p.has p.apart

    new-text : without_returns new_raw ≡ here.prefix ++ spaced_text new_words
    new-text =
        raw-text options.justify gaps here.prefix word words tail (returns_at returns more ls) mine.plain
        mine.columns white

    -- no fence is open at the first of them either
    enters : IsSafe options state → entered state (without_returns new_raw) ≡ at
    enters safe =
        let (rest, is, ends) = text-end options.justify gaps word words tail white in
        let old = first-unfenced options at raw p.fed p.has p.apart in
        let whole : here.prefix ++ (first_word p.has.ws ++ rest) ≡ here.prefix ++ spaced_text new_words =
        ap (λ w. here.prefix ++ (w ++ rest)) first-is ∙ ap (λ l. here.prefix ++ l) (sym is) in
        ap (λ f. record state { fence = f }) (ap (fence_at state.fence) (new-text ∙ sym whole)
        ∙ still-left options state raw p.has of-here.some of-here.starred rest of-here.begins ends safe old
        ∙ sym old)

    -- it stands in the place of that of the text
    in-place : IsInPlace returns raw new_raw (later_lines ++ later.again)
    in-place =
        let text = spaced_text new_words in
        let r = returns_at returns more ls in
        let (rest, is, ends) = text-end options.justify gaps word words tail white in
        let (old_rest, old, old_ends) = text-tail raw here.prefix p.has.ws of-here.some
        (read-split options at raw p.has) of-here.spaced in
        let well = text-ends options.justify gaps here.prefix word words tail mine.plain mine.columns white in
        record {
          common = here.prefix ++ word;
          old_end = old_rest;
          new_end = rest ++ return_if r;
          old = old ∙ ap (λ w. here.prefix ++ (w ++ old_rest)) first-is
              ∙ sym (append_assoc here.prefix word old_rest);
          is = ap (λ t. t ++ return_if r) (ap (λ t. here.prefix ++ t) is
              ∙ sym (append_assoc here.prefix word rest))
              ∙ append_assoc (here.prefix ++ word) rest (return_if r);
          old_ends = old_ends;
          new_ends = ends-word rest r ends;
          ends = λ some. return-ends (here.prefix ++ text) r (returns-none (here.prefix ++ text) well)
              ∙ followed options.justify wide returns end here.hanging later.again ls some;
        }

    new-line : IsNew options block_here here.hanging at new here.prefix new_words × IsFirstAlike here new
    new-line =
        let same = spread-first options.justify gaps word words tail in
        first-new options at raw p.fed p.has p.apart new_words new_raw _ new-text
        (spread-spaced options.justify gaps (word ∷ words) tail mine.plain white)
        (omega (arith, spread-len options.justify gaps (word ∷ words) tail)) (first-is ∙ sym same) (record {
          begins = ap (begins_text here.starred) same ∙ begins;
          columns = spread-columns options.justify gaps (word ∷ words) tail mine.columns;
          field = ap (λ w. here.field && has_byte 45 w) (same ∙ sym first-is)
              ∙ first-keyed options at raw p.fed p.has p.apart;
          closes = spread-free block_here options.justify gaps (word ∷ words) tail mine.closing;
        })

    filled-lines : (front : List ℕ) (raws : List (List ℕ)) → raws ≡ raw ∷ p.behind
        → AreBlocks ((here ∷ lines) ∷ bs) → stays (beside || is_beside here bs) here ≡ false
        → front ≡ printed (ending options returns told) here.prefix here.hanging
        (all_shown options.justify wide ((word ∷ words) ∷ ls)) ++ filled_end (ending options returns told)
        (here ∷ lines)
        → IsSafe options state → All IsFeedlessLine (here ∷ lines)
        → IsReadBack options returns told state beside [] ((here ∷ lines) ∷ bs) raws (front ++ back)
    filled-lines front raws whole (one, stops, are) stay is safe free =
        let others = flat later.blocks in
        let news = later_lines ++ later.again in
        let fed = nat_lt 0 (length later.again) in
        let ends = ending options returns told in
        let shown = printed ends here.prefix here.hanging
        (all_shown options.justify wide ((word ∷ words) ∷ ls)) in
        let title : (l : LineText) → l.hanging ≡ here.hanging → title_of l others ≡ false =
        λ l same. title-heads final l (flat bs) others later.heads (same ∙ sym p.walked.of.hangs)
        ∙ p.walked.title in
        let (new_is, alike) = new-line in
        let n = new-behind options block_here here.starred wide here.hanging
        (first-hangs options at raw p.fed p.has p.apart)
        (first-starred options at raw p.fed p.has p.apart) returns
        more p.walked.at final p.walked.of p.walked.apart later.again others later.reads title ls word words
        later_words at new here.prefix may cut all
        (sym (ap last_text parts) ∙ p.walked.final) begins new_is refl in
        let old_lines = text-lines raw here p.walked.done lines of-here
        (read-split options at raw p.has) p.walked.texts in
        let new_lines = text-lines new_raw new later_lines n.lines new_is.of
        (new-text ∙ ap (λ l. here.prefix ++ spaced_text l) (sym new_is.has)) n.texts in
        let fed_is : final.fed ≡ fed = p.walked.fed ∙ sym later.some in
        let same : IsSameParagraph (part_of false here lines) (part_of false new n.lines) = record {
          prefix = alike.head.prefix;
          hanging = alike.head.hangs;
          starred = alike.starred;
          words = n.spells ∙ sym parts;
          end = λ e. filled-last e new n.lines ∙ n.finish e ∙ ap (λ f. end ++ ending_if f e) (sym fed_is)
              ∙ sym (filled-last e here lines);
        } in
        let behind : StateText → List LineText = λ s.
        let l = line_as_read options s new_raw (nat_lt 0 (length news)) in
        let ls = read options (passed s l) news in
        as_title (title_of l ls) l ∷ ls in record {
          again = new_raw ∷ news;
          blocks = (new ∷ n.lines) ∷ later.blocks;
          reads = sym (read-more options state new_raw news ∙ ap behind (enters safe)
              ∙ ap (λ ls. as_title (title_of new ls) new ∷ ls) n.read_is
              ∙ ap (λ b. as_title b new ∷ (n.lines ++ others)) n.untitled
              ∙ ap (λ l. l ∷ (n.lines ++ others)) (as-title-none new));
          are = (
            n.one,
            stops-same final (last_line new n.lines) bs later.blocks are later.are later.heads n.alike stops,
            later.are,
          );
          same = λ e tells. part-cons e beside here new lines n.lines bs later.blocks alike.head are later.are
              later.heads (later.same e tells)
              (subst (λ b. IsSameBy e b (part_of b here lines) (part_of b new n.lines)) (sym stay)
              (refl, same));
          text_is = ap (λ f. f ++ back) (is ∙ ap (λ e. shown ++ e) (filled-last ends here lines))
              ∙ append_assoc shown (ends_as ends final) back
              ∙ ap₂ (λ f b. shown ++ ((end ++ ending_if f ends) ++ b)) fed_is later.text_is
              ∙ text-joined options here.starred wide returns end here.hanging later.again ls here.prefix word
              words later_words cut;
          feedless = All-append IsFeedless (new_raw ∷ later_lines) later.again
              (raws-feedless options here.starred wide returns end here.hanging later.again
              (break-spaced final p.walked.of.spaced)
              (All-head IsFeedlessLine here lines free).hanging ls here.prefix
              (word ∷ words) later_words (All-head IsFeedlessLine here lines free).prefix cut
              (subst (All IsFeedless) parts (words-feedless (here ∷ lines) free)))
              later.feedless;
          heads = alike.head;
          some = lt-ltb 0 (length (new_raw ∷ news)) (omega arith)
              ∙ sym (lt-ltb 0 (length (raw ∷ p.behind)) (omega arith))
              ∙ ap (λ l. nat_lt 0 (length l)) (sym whole);
          begun = subst (λ l. AreBegun returns l (new_raw ∷ news)) (sym whole) (inr in-place);
          alike = subst (λ l. AreAlike options l (new_raw ∷ news))
              (sym (whole ∙ ap (λ l. raw ∷ l) p.walked.whole))
              (alike-append options (raw ∷ p.walked.done) (new_raw ∷ later_lines) p.walked.left later.again
              (record {
                shown = marks_shown ++ words_of_lines (here ∷ lines);
                these = old_lines.0;
                those = rw (n.spells ∙ sym parts) at new_lines.0;
                alone = λ plain. new_lines.1 plain ∙ sym (old_lines.1 plain);
              }) later.alike);
        }

  abbrev FillsBack : LineText → Type 0
  FillsBack l =
      (front back : List ℕ) (raws : List (List ℕ)) → raws ≡ raw ∷ p.behind → AreBlocks ((l ∷ lines) ∷ bs)
      → stays (beside || is_beside l bs) l ≡ false
      → IsFilled options (ending options returns told) l (l ∷ lines) front
      → AreOfBlocksAny options returns told (is_beside l bs) bs back
      → Walks options returns told (is_beside l bs) bs → IsSafe options state → All IsFeedless raws
      → All IsFeedlessLine (l ∷ lines)
      → IsReadBack options returns told state beside [] ((l ∷ lines) ∷ bs) raws (front ++ back)

  filled-here : FillsBack here
  filled-here = λ front back raws whole blocks stay (division, divided, is) laid walks safe free lines_free.
      let (ls, wide, cut, shown) = lines-shown options here (words_of_lines (here ∷ lines))
      (λ none. omega (arith, p.walked.words_some, ap length none))
      p.walked.words.plain division (divided-is _ _ _ division divided) in
      let behind = behind_text block_here here.hanging final.words in
      let free_left : All IsFeedless p.walked.left = all-right IsFeedless p.walked.done p.walked.left
      (subst (All IsFeedless) p.walked.whole (All-tail IsFeedless raw p.behind (subst (All IsFeedless) whole free))) in
      by ls wide front back raws whole blocks stay cut
      (is ∙ ap (λ l. printed (ending options returns told) here.prefix
      here.hanging l ++ filled_end (ending options returns told) (here ∷ lines)) shown) safe lines_free
      (walks behind p.walked.left back p.walked.reads laid (safe-none options behind refl) free_left)
    where
      by : (ls : List (List (List ℕ))) (wide : ℕ → ℕ → ℕ) (front back : List ℕ) (raws : List (List ℕ))
          → raws ≡ raw ∷ p.behind → AreBlocks ((here ∷ lines) ∷ bs)
          → stays (beside || is_beside here bs) here ≡ false
          → AreCutInto options here.starred (words_of_lines (here ∷ lines)) ls
          → front ≡ printed (ending options returns told) here.prefix here.hanging
          (all_shown options.justify wide ls) ++ filled_end (ending options returns told) (here ∷ lines)
          → IsSafe options state → All IsFeedlessLine (here ∷ lines)
          → IsReadBack options returns told (behind_text block_here here.hanging final.words)
          (is_beside here bs) [] bs p.walked.left back
          → IsReadBack options returns told state beside [] ((here ∷ lines) ∷ bs) raws (front ++ back)
      by [] wide front back raws whole blocks stay cut is safe free later =
          absurd (omega (arith, p.walked.words_some, ap length cut))
      by ([] ∷ ls) wide front back raws whole blocks stay (behind, some, parts, may, cut) is safe free later =
          absurd (some refl)
      by ((word ∷ words) ∷ ls) wide front back raws whole blocks stay (behind, some, parts, may, cut) is safe
          free later =
          filled-lines wide word words behind ls may cut parts back later front raws whole blocks stay
          is safe free

  -- the same of the line that is read
  pub filled-step : FillsBack first
  filled-step = subst FillsBack (sym p.is) filled-here
