-- What lines show behind their margins, and lines that stand for themselves: no line of a paragraph does.
use Rattle.std.proofs.lemmas.Bool.{or_right, or_left}
use Rattle.textwrap_marked_laws.specs.Laws.{LineShows, IsMargin}
use Rattle.textwrap_marked_laws.specs.Laws.{begins_no_text, HasNoBarMark, is_line_mark, stands_alone}
use Rattle.textwrap_marks.specs.Signs.{is_sign}
use Rattle.textwrap_text.proofs.Common.{filter-append, and_parts}
use Rattle.textwrap_marked_laws.proofs as own
use own.Common.{All-head, All-tail, AreShown, LineText, bytes_eq, is_quote, list_any, none-any, All-map, Bool}
use own.Common.{All-nil, or-left, is_box, length, lt-ltb, nat_lt, codes, false, subst, List, cond, refl, true}
use own.Common.{cases_Bool, first_word, has_letter, length-map, map-append, told-apart, and-false, is_bullet}
use own.Common.{comment_len, has_columns, lines_alone, spaced_text, All-append, All-weaker, SpacedText, arith}
use own.Common.{is_comment_at, length-append, append_assoc, line_as_read, begins_text, bullets_len, StateText}
use own.Common.{words_between_white, without_returns, is_column_word, words_of_lines, ReflowOptions, All-cons}
use own.Common.{◌&&◌, ◌++◌, ◌||◌, All, ap₂, map, not, suc, sym, ◌<◌, ◌∙◌, ◌∷◌, ◌≡◌, [], ap, ℕ}
use own.HangingForms.{marks-comments, marks-quotes, full-before, quotes-are, IsHanging, IsQuote, IsFull}
use own.LaterLines.{one-bullet, read-split, text-parts, line-read, read-line, IsOfText}
use own.SpacedBack.{IsLineText, text-words, AreSpaced, each-word, spaced-in, words_in, IsWhite}
use own.{LineKinds.{HaveKinds, some-if}, OpenBehind.no-columns}

-- ---- a line

no-margin : (options : ReflowOptions) → IsMargin options []
no-margin options = record {
  lead = [];
  comments = [];
  quotes = [];
  in_block = false;
  is = refl;
  white = All-nil _;
  one = omega arith;
  comment = All-nil _;
  quote = All-nil _;
  apart = All-nil _;
}

-- what a line shows as a whole
abbrev pub own_shown : List ℕ → List (List ℕ)
own_shown line =
    let words = words_between_white line in cond (nat_lt 0 (length words)) words ((10 ∷ []) ∷ [])

pub shows-own : (options : ReflowOptions) (line : List ℕ) → LineShows options line (own_shown line)
shows-own options line = ([], line, no-margin options, refl, refl)

-- a line is its prefix and its text
pub line-split : (options : ReflowOptions) (state : StateText) (raw : List ℕ) (fed : Bool)
    → let line = line_as_read options state raw fed in
    without_returns raw ≡ line.prefix ++ spaced_text line.words
line-split options state raw fed =
    let r = line-read options state raw in
    read-split options state raw r
    ∙ ap (λ (l : LineText). l.prefix ++ spaced_text l.words) (sym (read-line options state raw r fed))

-- ---- marks before a text

-- a word that is no bar
abbrev pub NoBar : List ℕ → Type 0
NoBar word = bytes_eq word (codes "|") ≡ false

module _ (options : ReflowOptions) (plain : HasNoBarMark options) where
  -- a mark before a text, and no bar
  pub record IsLineMark (w : SpacedText) : Type 0 where
    pub mark : is_line_mark options w.word ≡ true
    pub no_bar : NoBar w.word

  comment-mark : (in_block : Bool) (word : List ℕ) → is_comment_at options in_block word ≡ true
      → is_line_mark options word ≡ true
  comment-mark true word is = or_left _ _ (or_left _ _ (or_left _ _ (or_left _ _ (or_left _ _ is))))
  comment-mark false word is =
      or_left _ _ (or_left _ _ (or_left _ _ (or_left _ _ (or_right _ _ is))))

  no-bar : (in_block : Bool) → is_comment_at options in_block (codes "|") ≡ false
  no-bar true = refl
  no-bar false =
      ap (λ b. b || (not options.markdown && false)) plain ∙ and-false (not options.markdown)

  comment-is : (in_block : Bool) (w : SpacedText) → is_comment_at options in_block w.word ≡ true → IsLineMark w
  comment-is in_block w is = record {
    mark = comment-mark in_block w.word is;
    no_bar = told-apart (is_comment_at options in_block) w.word (codes "|") is (no-bar in_block);
  }

  comments-are : (in_block : Bool) (cs rest : List SpacedText)
      → comment_len options in_block (cs ++ rest) ≡ length cs → All IsLineMark cs
  comments-are in_block [] rest is = All-nil IsLineMark
  comments-are in_block (c ∷ []) rest is =
      All-cons IsLineMark c [] (comment-is in_block c (some-if (is_comment_at options in_block c.word) 0 0 is).0)
      (All-nil IsLineMark)
  comments-are in_block (c ∷ d ∷ cs) rest is =
      absurd (omega (arith, (some-if (is_comment_at options in_block c.word) 0 (suc (length cs)) is).1))

  quotes-line-marks : (qs : List SpacedText) → All IsQuote (words_in qs) → All IsLineMark qs
  quotes-line-marks qs all =
      All-weaker (λ w. is_quote w.word ≡ true) IsLineMark (λ w is. record {
        mark = or_left _ _ (or_left _ _ (or_left _ _ (or_right _ _ is)));
        no_bar = told-apart is_quote w.word (codes "|") is refl;
      }) qs (each-word IsQuote qs all)

  bullet-is : (w : SpacedText) → is_bullet w.word ≡ true → IsLineMark w
  bullet-is w is = record {
    mark = or_left _ _ (or_left _ _ (or_right _ _ is));
    no_bar = told-apart is_bullet w.word (codes "|") is refl;
  }

  box-is : (w v : SpacedText) → is_box w v ≡ true → IsLineMark w × IsLineMark v
  box-is w v is =
      let (front, closes) = and_parts (bytes_eq w.word (codes "[") && bytes_eq w.white (codes " ")) _ is in
      let opens = (and_parts (bytes_eq w.word (codes "[")) (bytes_eq w.white (codes " ")) front).0 in (
        record {
          mark = or_left _ _ (or_right _ _ opens);
          no_bar = told-apart (λ word. bytes_eq word (codes "[")) w.word (codes "|") opens refl;
        },
        record {
          mark = or_right _ _ closes;
          no_bar = told-apart (λ word. bytes_eq word (codes "]")) v.word (codes "|") closes refl;
        },
      )

  bullets-are : (bs ws : List SpacedText) → bullets_len (bs ++ ws) ≡ length bs → All IsLineMark bs
  bullets-are [] ws is = All-nil IsLineMark
  bullets-are (w ∷ []) [] is =
      All-cons IsLineMark w [] (bullet-is w (some-if (is_bullet w.word) 0 0 is).0) (All-nil IsLineMark)
  bullets-are (w ∷ []) (v ∷ ws) is =
      let (bullet, none) =
      one-bullet (is_bullet w.word) (is_box w v) (bullets_len (v ∷ ws)) (bullets_len ws) is in
      All-cons IsLineMark w [] (bullet-is w bullet) (All-nil IsLineMark)
  bullets-are (w ∷ v ∷ bs) ws is =
      cut (bullets-are (v ∷ bs) ws) (bullets-are bs ws) (is_bullet w.word) refl (is_box w v) refl is
    where
      cut : (bullets_len (v ∷ (bs ++ ws)) ≡ suc (length bs) → All IsLineMark (v ∷ bs))
          → (bullets_len (bs ++ ws) ≡ length bs → All IsLineMark bs)
          → (b : Bool) → is_bullet w.word ≡ b → (x : Bool) → is_box w v ≡ x
          → cond b (suc (bullets_len (v ∷ (bs ++ ws)))) (cond x (suc (suc (bullets_len (bs ++ ws)))) 0)
          ≡ suc (suc (length bs)) → All IsLineMark (w ∷ v ∷ bs)
      cut later behind true bullet x box is =
          All-cons IsLineMark w (v ∷ bs) (bullet-is w bullet) (later (omega (arith, is)))
      cut later behind false bullet true box is =
          let (opens, closes) = box-is w v box in
          All-cons IsLineMark w (v ∷ bs) opens (All-cons IsLineMark v bs closes (behind (omega (arith, is))))
      cut later behind false bullet false box is = absurd (omega (arith, is))

  pub line-marks : (in_block : Bool) (cs qs bs ws : List SpacedText) → HaveKinds options in_block cs qs bs ws
      → All IsLineMark (cs ++ (qs ++ bs))
  line-marks in_block cs qs bs ws have =
      All-append IsLineMark cs (qs ++ bs) (comments-are in_block cs (qs ++ (bs ++ ws)) have.comment)
      (All-append IsLineMark qs bs (quotes-line-marks qs (quotes-are qs (bs ++ ws) have.quote))
      (bullets-are bs ws have.bullet))

  -- behind marks text begins
  text-begins : (marks ws : List SpacedText) → All IsLineMark marks → (starred : Bool)
      → begins_text starred (first_word ws) ≡ true → 0 < length ws
      → begins_no_text options (words_in marks ++ words_in ws) ≡ false
  text-begins [] [] all starred begins some = absurd (omega (arith, some))
  text-begins [] (w ∷ ws) all starred begins some =
      let later = map (λ (v : SpacedText). v.word) ws in
      ap (λ b. cond b false (cond (is_line_mark options w.word) (begins_no_text options later) true))
      (ap (λ b. b && true) (and_parts (has_letter w.word && not (is_sign w.word)) _ begins).0)
  text-begins (m ∷ marks) ws all starred begins some =
      let later = begins_no_text options (words_in marks ++ words_in ws) in
      let behind = text-begins marks ws (All-tail IsLineMark m marks all) starred begins some in
      elim (begins_text false m.word) as (λ b. cond b false (cond (is_line_mark options m.word) later true) ≡ false) [
        | true ↦ refl
        | false ↦ ap (λ b. cond b later true) (All-head IsLineMark m marks all).mark ∙ behind
      ]

-- ---- a line of words behind marks

module _ (line lead : List ℕ) (marks ws : List SpacedText) (white : All IsWhite lead) (full : All IsFull marks)
    (spaced : AreSpaced ws) (some : 0 < length ws)
    (is : line ≡ (lead ++ spaced_text marks) ++ spaced_text ws) where
  pub line-words : words_between_white line ≡ words_in marks ++ words_in ws
  line-words =
      let text : IsLineText line lead (marks ++ ws) = record {
        white = white;
        spaced = full-before marks ws full spaced;
        is = is ∙ append_assoc lead (spaced_text marks) (spaced_text ws)
            ∙ ap (λ l. lead ++ l) (sym (text-parts marks ws));
      } in
      text-words line lead (marks ++ ws) text ∙ map-append (λ (w : SpacedText). w.word) marks ws

  has-words : nat_lt 0 (length (words_between_white line)) ≡ true
  has-words = grind (arith, cases_Bool, line-words, lt-ltb, length-append, length-map)

  -- it shows its marks too
  pub shows-first : (options : ReflowOptions) → LineShows options line (words_in marks ++ words_in ws)
  shows-first options = grind (arith, cases_Bool, no-margin, has-words, line-words)

  -- or, behind the margin that they are, its words alone
  shows-behind : (options : ReflowOptions) → IsMargin options (lead ++ spaced_text marks)
      → LineShows options line (words_in ws)
  shows-behind options margin = grind (arith, cases_Bool, has-words, spaced-in)

  -- it does not stand for itself, if these are such marks, and a text
  pub not-alone : (options : ReflowOptions) (plain : HasNoBarMark options)
      → All (IsLineMark options plain) marks
      → (starred : Bool) → begins_text starred (first_word ws) ≡ true → has_columns options.justify ws ≡ false
      → stands_alone options line ≡ false
  not-alone options plain all starred begins level =
      ap (λ l. begins_no_text options l || list_any (λ w. bytes_eq w (codes "|")) l) line-words
      ∙ ap₂ (λ a b. a || b) (text-begins options plain marks ws all starred begins some)
      (none-any (λ w. bytes_eq w (codes "|")) (words_in marks ++ words_in ws)
      (All-append NoBar (words_in marks) (words_in ws) (All-map NoBar (λ w. w.word) marks
      (All-weaker (IsLineMark options plain) (λ w. NoBar w.word) (λ w is. is.no_bar) marks all))
      (All-map NoBar (λ w. w.word) ws (All-weaker (λ w. is_column_word w.word ≡ false) (λ w. NoBar w.word) (λ w is.
      or-left (bytes_eq w.word (codes "|")) _ (or-left _ _ (or-left _ _ (or-left _ _ (or-left _ _ is))))) ws
      (no-columns options.justify ws level)))))

-- ---- lines

pub shown-append : (options : ReflowOptions) (lines later : List (List ℕ)) (shown after : List (List ℕ))
    → AreShown options lines shown → AreShown options later after
    → AreShown options (lines ++ later) (shown ++ after)
shown-append options [] later shown after none are =
    subst (λ l. AreShown options later (l ++ after)) (sym none) are
shown-append options (line ∷ lines) later shown after (front, back, here, rest, is) are = (
  front,
  back ++ after,
  here,
  shown-append options lines later back after rest are,
  ap (λ l. l ++ after) is ∙ append_assoc front back after,
)

module _ (options : ReflowOptions) where
  pub alone-skip : (line : List ℕ) (lines : List (List ℕ)) → stands_alone options (without_returns line) ≡ false
      → lines_alone options (line ∷ lines) ≡ lines_alone options lines
  alone-skip line lines is =
      ap (λ b. cond b (without_returns line ∷ lines_alone options lines) (lines_alone options lines)) is

  alone-append : (lines later : List (List ℕ))
      → lines_alone options (lines ++ later) ≡ lines_alone options lines ++ lines_alone options later
  alone-append lines later = grind (arith, cases_Bool, map-append, filter-append)

  -- lines that show the words of these, and none of them stands for itself
  pub record AreTextLines (raws : List (List ℕ)) (lines : List LineText) : Type 0 where
    pub shown : AreShown options raws (words_of_lines lines)
    pub alone : HasNoBarMark options → lines_alone options raws ≡ []

  pub no-lines : AreTextLines [] []
  no-lines = record { shown = refl; alone = λ plain. refl }

  -- one more, behind a hanging form
  pub more-lines : (in_block : Bool) (hanging : List ℕ) → IsHanging options in_block hanging
      → (state : StateText) (raw : List ℕ) (fed : Bool) (raws : List (List ℕ)) (lines : List LineText)
      → let line = line_as_read options state raw fed in
      IsOfText options in_block hanging state line → line.prefix ≡ hanging → AreTextLines raws lines
      → AreTextLines (raw ∷ raws) (line ∷ lines)
  more-lines in_block hanging hang state raw fed raws lines of prefix are =
      let line = line_as_read options state raw fed in
      let text = without_returns raw in
      let marks = hang.cs ++ hang.qs in
      let (one, comment) = marks-comments options in_block hang.cs hang.qs hang.marks in
      let quote = marks-quotes options in_block (words_in hang.cs) (words_in hang.qs) hang.marks in
      let is = line-split options state raw fed ∙ ap (λ p. p ++ spaced_text line.words) (prefix ∙ hang.is) in
      record {
        shown = (
          _,
          words_of_lines lines,
          shows-behind text hang.lead marks line.words hang.white hang.full of.spaced of.some is options
              (record {
                lead = hang.lead;
                comments = hang.cs;
                quotes = hang.qs;
                in_block = in_block;
                is = refl;
                white = hang.white;
                one = one;
                comment = comment;
                quote = each-word IsQuote hang.qs quote;
                apart = All-weaker IsFull (λ w. 0 < length w.white × All IsWhite w.white)
                    (λ w full. (full.some, full.spaced.white)) marks hang.full;
              }),
          are.shown,
          refl,
        );
        alone = λ plain. alone-skip raw raws
            (not-alone text hang.lead marks line.words hang.white hang.full of.spaced of.some is options plain
            (All-append (IsLineMark options plain) hang.cs hang.qs
            (All-weaker (λ w. is_comment_at options in_block w.word ≡ true) (IsLineMark options plain)
            (comment-is options plain in_block) hang.cs comment)
            (quotes-line-marks options plain hang.qs quote))
            of.starred of.begins of.columns) ∙ are.alone plain;
      }

  -- lines that show the same, and of which the same stand for themselves
  pub record AreAlike (lines others : List (List ℕ)) : Type 0 where
    pub shown : List (List ℕ)
    pub these : AreShown options lines shown
    pub those : AreShown options others shown
    pub alone : HasNoBarMark options → lines_alone options others ≡ lines_alone options lines

  pub none-alike : AreAlike [] []
  none-alike = record { shown = []; these = refl; those = refl; alone = λ plain. refl }

  -- a line with the same content more
  pub more-alike : (raw new : List ℕ) (lines others : List (List ℕ))
      → without_returns new ≡ without_returns raw → AreAlike lines others → AreAlike (raw ∷ lines) (new ∷ others)
  more-alike raw new lines others same alike =
      let own = shows-own options (without_returns raw) in record {
        shown = own_shown (without_returns raw) ++ alike.shown;
        these = (_, alike.shown, own, alike.these, refl);
        those = (
          own_shown (without_returns raw),
          alike.shown,
          subst (λ l. LineShows options l (own_shown (without_returns raw))) (sym same) own,
          alike.those,
          refl,
        );
        alone = λ plain.
            ap₂ (λ line lines. cond (stands_alone options line) (line ∷ lines) lines) same (alike.alone plain);
      }

  pub alike-append : (lines others later more : List (List ℕ)) → AreAlike lines others → AreAlike later more
      → AreAlike (lines ++ later) (others ++ more)
  alike-append lines others later more front back = grind (arith, cases_Bool, shown-append, alone-append)
