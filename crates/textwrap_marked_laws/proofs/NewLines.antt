-- The lines of a paragraph as they are printed, read again: behind the first of them.
use Rattle.textwrap_marks.proofs.Letterless.{no-comment}
use Rattle.textwrap_marked_laws.proofs as own
use own.AnewLines.{returns-none, ends-behind, returns-off, return_if, shown-end, white-end, EndsWell}
use own.Common.{arith, codes, false, subst, Bool, List, refl, true, ◌&&◌, ◌++◌, ◌||◌, All, ap₂, not, sym, ◌∙◌}
use own.Common.{as_title, bytes_eq, contains, has_byte, is_ended, or-left, length, nat_eq, nat_lt, passed, []}
use own.Common.{break_white, spaced_text, SpacedText, append-nil, cases_Bool, first_word, has_letter, All-nil}
use own.Common.{last_white, StateText, all-right, ending_if, ends_with, last_word, LineText, all-left, is_key}
use own.Common.{opens_paragraph, without_returns, words_of_lines, ReflowOptions, closes_block, begins_text, ℕ}
use own.OpenBehind.{letter-no-rule, behind-same, behind_text, open-behind, text-letter, goes-true}
use own.SpreadWords.{spread-columns, spread-spaced, spread-first, spread-white, spread-words, spread-last}
use own.TextBlocks.{as-title-none, AreTextWords, line-closing, AreOneBlock, last-behind, AreClosing, NoColumn}
use own.WordEnds.{closing-after, closing-alone, break-spaced, break-again, closes-last, deeper-same, part-cut}
use own.{Common.{◌∷◌, ◌≡◌, ap}, ParagraphLines.{later-new, IsNew}, SpacedBack.{words_in, IsPlain, IsWhite}}
use own.{HangingForms.IsHanging, SpreadWords.{spread-end, spread-len, last-word, last_text, goes-on, no-mark}}
use own.{LaterLines.IsOfText, TextBlocks.{open_still, last_line, read-more, title_of, NoClose, line_at, read}}
use own.{LineWords.{AreCutInto, MayPart, spread, shown}, LinesAlone.{AreTextLines, more-lines, no-lines}}
use own.{TextParts.IsBackAlike, WordEnds.{spread-free, spread-none, break-same, cut-facts, ends_as}}

-- ---- the text of a printed line

pub text-ends : (justify : Bool) (gaps : ℕ → ℕ) (prefix word : List ℕ) (words : List (List ℕ))
    (end : List ℕ) → All IsPlain (word ∷ words) → All NoColumn (word ∷ words) → All IsWhite end
    → EndsWell (prefix ++ spaced_text (spread justify gaps (word ∷ words) end))
text-ends justify gaps prefix word words end plain none white =
    ends-behind prefix (spaced_text (spread justify gaps (word ∷ words) end))
    (subst EndsWell (sym (spread-end justify gaps word words end))
    (white-end (shown justify gaps (word ∷ words)) end (shown-end justify gaps word words plain none) white))

pub raw-text : (justify : Bool) (gaps : ℕ → ℕ) (prefix word : List ℕ) (words : List (List ℕ))
    (end : List ℕ) (b : Bool) → All IsPlain (word ∷ words) → All NoColumn (word ∷ words) → All IsWhite end
    → without_returns ((prefix ++ spaced_text (spread justify gaps (word ∷ words) end)) ++ return_if b)
    ≡ prefix ++ spaced_text (spread justify gaps (word ∷ words) end)
raw-text justify gaps prefix word words end b plain none white =
    let text = prefix ++ spaced_text (spread justify gaps (word ∷ words) end) in
    returns-off text b (returns-none text (text-ends justify gaps prefix word words end plain none white))

-- ---- the words of lines

module _ (options : ReflowOptions) (in_block starred : Bool) where
  -- what the words up to a line's end, and those behind it, keep to
  pub parted : (word : List ℕ) (words : List (List ℕ)) (next : List ℕ) (later : List (List ℕ))
      → AreTextWords in_block ((word ∷ words) ++ next ∷ later)
      → All (NoClose in_block) (word ∷ words) × AreTextWords in_block (word ∷ words)
      × AreTextWords in_block (next ∷ later)
  parted word words next later are =
      let own = word ∷ words in
      let rest = next ∷ later in
      let (none, closing) = closing-after in_block own next later are.closing in (
        none,
        record {
          plain = all-left IsPlain own rest are.plain;
          columns = all-left NoColumn own rest are.columns;
          closing = closing-alone in_block own none;
        },
        record {
          plain = all-right IsPlain own rest are.plain;
          columns = all-right NoColumn own rest are.columns;
          closing = closing;
        },
      )

  -- the words of one of several lines, from those of it and of the later ones
  pub here-words : (word : List ℕ) (words later : List (List ℕ)) (lines : List (List (List ℕ)))
      → AreCutInto options starred later lines → AreTextWords in_block ((word ∷ words) ++ later)
      → AreTextWords in_block (word ∷ words)
  here-words word words later [] none are = grind (arith, cases_Bool, append-nil)
  here-words word words later ([] ∷ lines) (behind, some, is, may, cut) are = absurd (some refl)
  here-words word words later ((next ∷ more) ∷ lines) (behind, some, is, may, cut) are =
      (parted word words next (more ++ behind)
      (subst (λ l. AreTextWords in_block ((word ∷ words) ++ l)) is are)).1

-- ---- what is printed

-- the white at a line's end, and whether a carriage return follows, where these lines do
abbrev pub text_end : List ℕ → List (List (List ℕ)) → List ℕ
text_end end [] = end
text_end end (line ∷ lines) = []

pub end-white : (end : List ℕ) → All IsWhite end → (lines : List (List (List ℕ)))
    → All IsWhite (text_end end lines)
end-white end white [] = white
end-white end white (line ∷ lines) = All-nil IsWhite

abbrev pub returns_at : Bool → Bool → List (List (List ℕ)) → Bool
returns_at returns more [] = more
returns_at returns more (line ∷ lines) = returns

-- the gaps of a line are those for so many lines behind it
module _ (justify : Bool) (wide : ℕ → ℕ → ℕ) (returns more : Bool) (end : List ℕ) where
  -- the words of a line
  abbrev pub line_words : List (List ℕ) → List (List (List ℕ)) → List SpacedText
  line_words words lines = spread justify (wide (length lines)) words (text_end end lines)

  abbrev pub line_raw : List ℕ → List (List ℕ) → List (List (List ℕ)) → List ℕ
  line_raw prefix words lines =
      (prefix ++ spaced_text (line_words words lines)) ++ return_if (returns_at returns more lines)

  abbrev pub later_raws : List ℕ → List (List (List ℕ)) → List (List ℕ)
  later_raws hanging [] = []
  later_raws hanging (words ∷ lines) = line_raw hanging words lines ∷ later_raws hanging lines

-- ---- the lines behind the first

-- where these blocks are read behind the last line of a paragraph
module _ (options : ReflowOptions) (in_block starred : Bool) (wide : ℕ → ℕ → ℕ) (hanging : List ℕ)
    (hang : IsHanging options in_block hanging)
    (margin : starred ≡ (in_block && not (has_byte 42 hanging))) (returns more : Bool) (at : StateText)
    (final : LineText) (of : IsOfText options in_block hanging at final) (level : final.apart ≡ false)
    (left : List (List ℕ)) (rest : List LineText)
    (reads : rest ≡ read options (behind_text in_block hanging final.words) left)
    (title : (line : LineText) → line.hanging ≡ hanging → title_of line rest ≡ false)
  where
    abbrev end : List ℕ
    end = break_white final

    tail-white : (lines : List (List (List ℕ))) → All IsWhite (text_end end lines)
    tail-white lines = end-white end (break-spaced final of.spaced) lines

    abbrev raws_behind : List (List (List ℕ)) → List (List ℕ)
    raws_behind lines = later_raws options.justify wide returns more end hanging lines

    -- words of a line with these gaps
    abbrev laid : (ℕ → ℕ) → List (List ℕ) → List ℕ → List SpacedText
    laid gaps words tail = spread options.justify gaps words tail

    -- lines of the other words behind a line of these, where `left` follows
    pub record AreNewBehind (state : StateText) (line : LineText) (words : List (List ℕ))
        (news : List (List ℕ)) : Type 0 where
      pub lines : List LineText
      pub read_is : read options (passed state line) (news ++ left) ≡ lines ++ rest
      pub untitled : title_of line (lines ++ rest) ≡ false
      pub one : AreOneBlock line lines
      pub alike : IsBackAlike final (last_line line lines)
      pub finish : (ending : List ℕ)
          → ends_as ending (last_line line lines) ≡ end ++ ending_if (nat_lt 0 (length left)) ending
      pub spells : words_of_lines (line ∷ lines) ≡ words
      pub texts : AreTextLines options news lines

    last-new : (word : List ℕ) (words : List (List ℕ)) (state : StateText) (line : LineText)
        (prefix : List ℕ) → AreTextWords in_block (word ∷ words)
        → last_text (word ∷ words) ≡ last_text (words_in final.words) → begins_text starred word ≡ true
        → IsNew options in_block hanging state line prefix (laid (wide 0) (word ∷ words) end)
        → line.fed ≡ nat_lt 0 (length left) → AreNewBehind state line (word ∷ words) []
    last-new word words state line prefix are same begins new fed =
        let gaps = wide 0 in
        let last = final.words in
        let own = laid gaps (word ∷ words) end in
        let white = spread-white options.justify gaps word words end in
        let own_words = spread-words options.justify gaps (word ∷ words) end in
        let finish : last_word own ≡ last_word last =
        spread-last options.justify gaps (word ∷ words) end ∙ same ∙ sym (last-word last) in
        let closes : (in_block && closes_block own) ≡ (in_block && closes_block last) =
        closes-last in_block own (omega (arith, spread-len options.justify gaps (word ∷ words) end))
        (subst (AreClosing in_block) (sym own_words) are.closing)
        ∙ ap (λ w. in_block && contains (codes "*/") w) (ap last_text own_words ∙ same)
        ∙ sym (closes-last in_block last of.some (line-closing options in_block hanging at final of)) in
        let deeper = deeper-same hanging starred of.starred own last
        (ap (begins_text starred) (spread-first options.justify gaps word words end) ∙ begins) of.begins
        finish in
        let breaks = ap (λ w. ends_with nat_eq w (codes "  ")) white ∙ break-same final in
        let state_is : passed state line ≡ behind_text in_block hanging last =
        new.of.behind ∙ ap (behind_text in_block hanging) new.has
        ∙ behind-same in_block hanging own last closes deeper in record {
          lines = [];
          read_is = ap (λ s. read options s left) state_is ∙ sym reads;
          untitled = title line new.of.hangs;
          one = tt;
          alike = record {
            hangs = new.of.hangs ∙ sym of.hangs;
            ended = new.of.ends ∙ ap (is_ended in_block) new.has
                ∙ (λ i. ends_with nat_eq (finish i) (codes "\\") || breaks i || closes i) ∙ sym of.ends;
            apart = new.apart ∙ sym level;
          };
          finish = λ ending. ap₂ (λ w f. w ++ ending_if f ending)
              (break-again final line (ap last_white new.has ∙ white)) fed;
          spells = append-nil (words_in line.words) ∙ ap words_in new.has ∙ own_words;
          texts = no-lines options;
        }

    abbrev IsLineOf : StateText → LineText → List ℕ → List (List ℕ) → List (List (List ℕ)) → Type 0
    IsLineOf state line prefix words lines =
        IsNew options in_block hanging state line prefix
        (laid (wide (length lines)) words (text_end end lines))

    pub new-behind : (lines : List (List (List ℕ))) (word : List ℕ) (words later : List (List ℕ))
        (state : StateText) (line : LineText) (prefix : List ℕ)
        → MayPart options starred (word ∷ words) later → AreCutInto options starred later lines
        → AreTextWords in_block ((word ∷ words) ++ later)
        → last_text ((word ∷ words) ++ later) ≡ last_text (words_in final.words)
        → begins_text starred word ≡ true → IsLineOf state line prefix (word ∷ words) lines
        → line.fed ≡ nat_lt 0 (length (raws_behind lines ++ left))
        → AreNewBehind state line ((word ∷ words) ++ later) (raws_behind lines)
    new-behind [] word words later state line prefix may none are same begins new fed =
        let whole : (word ∷ words) ++ later ≡ word ∷ words =
        ap (λ l. (word ∷ words) ++ l) none ∙ append-nil (word ∷ words) in
        subst (λ l. AreNewBehind state line l []) (sym whole)
        (last-new word words state line prefix (subst (AreTextWords in_block) whole are)
        (sym (ap last_text whole) ∙ same) begins new fed)
    new-behind ([] ∷ lines) word words later state line prefix may (behind, some, is, part, cut) are same
        begins new fed = absurd (some refl)
    new-behind ((next ∷ more_words) ∷ lines) word words later state line prefix may
        (behind, some, is, part, cut) are same begins new fed =
        let own = word ∷ words in
        let others = next ∷ more_words in
        let tail = text_end end lines in
        let gaps = wide (length (others ∷ lines)) in
        let next_gaps = wide (length lines) in
        let own_laid = laid gaps own [] in
        let next_laid = laid next_gaps others tail in
        let here = behind_text in_block hanging own_laid in
        let raw = line_raw options.justify wide returns more end hanging others lines in
        let raws = raws_behind lines ++ left in
        let next_line = line_at options here raw raws in
        let (none, mine, theirs) = parted options in_block starred word words next (more_words ++ behind)
        (subst (λ l. AreTextWords in_block (own ++ l)) is are) in
        let (slash, goes) = cut-facts options starred (last_text own) next (more_words ++ behind)
        (part-cut options starred own next (more_words ++ behind) (λ e. cc)
        (subst (MayPart options starred own) is may)) in
        let goer = goes-on options starred next goes in
        let letter = text-letter starred next goer.begins in
        let own_words = here-words options in_block starred next more_words behind lines cut theirs in
        let closes = spread-none in_block options.justify gaps own [] none in
        let first = spread-first options.justify next_gaps next more_words tail in
        let next_new : IsLineOf here next_line hanging others lines =
        later-new options in_block hanging hang here raw (nat_lt 0 (length raws)) next_laid
        (open_still in_block (closes_block own_laid) closes)
        (raw-text options.justify next_gaps hanging next more_words tail (returns_at returns more lines)
        own_words.plain own_words.columns (tail-white lines))
        (spread-spaced options.justify next_gaps others tail own_words.plain (tail-white lines))
        (no-mark options in_block starred next next_laid first goer.begins goer.bullet
        (no-comment options in_block next letter goer.marker)) (open-behind options in_block hanging own_laid)
        (record {
          begins = ap (λ b. begins_text b (first_word next_laid)) (sym margin)
              ∙ ap (begins_text starred) first ∙ goer.begins;
          columns = spread-columns options.justify next_gaps others tail own_words.columns;
          field = ap (λ w. is_key w && true && has_byte 45 w) first ∙ ap (λ b. b && true && has_byte 45 next)
              (or-left (is_key next) _ (or-left _ _ (or-left _ _ (or-left _ _ goer.opens))));
          closes = spread-free in_block options.justify next_gaps others tail own_words.closing;
        }) in
        let rest_new = new-behind lines next more_words behind here next_line hanging part cut theirs
        (sym (ap (λ l. last_text (own ++ l)) is ∙ last-behind own (others ++ behind) (omega arith)) ∙ same)
        goer.begins next_new refl in
        let slashes = ap (λ w. ends_with nat_eq w (codes "\\")) (spread-last options.justify gaps own [])
        ∙ slash in
        let white = spread-white options.justify gaps word words [] in
        let ended : line.ended ≡ false = new.of.ends ∙ ap (is_ended in_block) new.has
        ∙ (λ i. slashes i || ends_with nat_eq (white i) (codes "  ") || closes i) in
        let state_is : passed state line ≡ here =
        new.of.behind ∙ ap (behind_text in_block hanging) new.has in
        let next_first : first_word next_line.words ≡ next = ap first_word next_new.has ∙ first in
        subst (λ l. AreNewBehind state line (own ++ l) (raw ∷ raws_behind lines)) (sym is) (record {
          lines = next_line ∷ rest_new.lines;
          read_is = ap (λ s. read options s (raw ∷ raws)) state_is ∙ read-more options here raw raws
              ∙ ap (λ ls. as_title (title_of next_line ls) next_line ∷ ls) rest_new.read_is
              ∙ ap (λ b. as_title b next_line ∷ (rest_new.lines ++ rest)) rest_new.untitled
              ∙ ap (λ l. l ∷ (rest_new.lines ++ rest)) (as-title-none next_line);
          untitled = ap (λ b. b && bytes_eq next_line.prefix line.hanging)
              (letter-no-rule next_line.words (ap has_letter next_first ∙ letter));
          one = (
            goes-true line next_line new.apart next_new.apart ended (next_new.prefixed ∙ sym new.of.hangs)
                (ap opens_paragraph next_first ∙ goer.opens),
            rest_new.one,
          );
          alike = rest_new.alike;
          finish = rest_new.finish;
          spells = ap (λ l. l ++ words_of_lines (next_line ∷ rest_new.lines))
              (ap words_in new.has ∙ spread-words options.justify gaps own [])
              ∙ ap (λ l. own ++ l) rest_new.spells;
          texts = more-lines options in_block hanging hang here raw (nat_lt 0 (length raws))
              (raws_behind lines) rest_new.lines next_new.of next_new.prefixed rest_new.texts;
        })
