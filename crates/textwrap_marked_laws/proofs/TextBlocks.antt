-- The lines of a paragraph of a text, one after another.
use Rattle.textwrap_marked_lines.specs.Lines.{is_title}
use Rattle.textwrap_marks.{proofs.ListLemmas.or-right, specs.Signs.ends_early}
use Rattle.textwrap_marked_laws.proofs as own
use own.Common.{All-append, SpacedText, append-nil, cases_Bool, first_word, length-map, read_lines, All-head}
use own.Common.{All-tail, LineText, any-none, as_title, contains, is_ended, or-false, All-map, All-nil, arith}
use own.Common.{ReflowOptions, length-append, closes_block, closes_early, line_as_read, with_titles, All-cons}
use own.Common.{bytes_eq-Decides, opens_paragraph, without_returns, is_column_word, words_of_lines, StateText}
use own.Common.{entered, goes_on, or-left, get_or, length, nat_lt, passed, codes, false, subst, Bool, List, ℕ}
use own.Common.{refl, true, ◌&&◌, ◌++◌, ◌||◌, All, not, sym, ◌<◌, ◌∙◌, ◌∷◌, ◌≡◌, [], ap, ⊤}
use own.OpenBehind.{behind_text, no-columns}
use own.{HangingForms.IsHanging, LaterLines.{read_block, line-read, read-line, IsOfText, read_as, IsRead}}
use own.{LinesAlone.{AreTextLines, more-lines, no-lines}, SpacedBack.{spaced-plain, words_in, IsPlain}}
use own.{ParagraphLines.{first-hangs, first-text, later-line}, SpreadWords.{front-more, last-more, last_text}}

-- the last of some texts is that of those behind others
pub last-behind : (words later : List (List ℕ)) → 0 < length later
    → last_text (words ++ later) ≡ last_text later
last-behind [] later some = refl
last-behind (v ∷ []) [] some = absurd (omega (arith, some))
last-behind (v ∷ []) (word ∷ later) some = refl
last-behind (v ∷ w ∷ words) later some = last-behind (w ∷ words) later some

-- ---- titles

-- whether a line is a title, before these lines
abbrev pub title_of : LineText → List LineText → Bool
title_of line [] = false
title_of line (next ∷ lines) = is_title line next

pub as-title-none : (line : LineText) → as_title false line ≡ line
as-title-none line = λ i. record line { apart = or-false line.apart i }

titles-more : (line : LineText) (lines : List LineText)
    → with_titles (line ∷ lines) ≡ as_title (title_of line lines) line ∷ with_titles lines
titles-more line [] = ap (λ l. l ∷ []) (sym (as-title-none line))
titles-more line (next ∷ lines) = refl

title-same : (line : LineText) (lines : List LineText)
    → title_of line (with_titles lines) ≡ title_of line lines
title-same line [] = refl
title-same line (next ∷ []) = refl
title-same line (next ∷ more ∷ lines) = refl

-- ---- lines that are read

module _ (options : ReflowOptions) where
  -- the lines between line feeds, with their titles
  abbrev pub read : StateText → List (List ℕ) → List LineText
  read state raws = with_titles (read_lines options state raws)

  abbrev pub line_at : StateText → List ℕ → List (List ℕ) → LineText
  line_at state raw raws = line_as_read options (entered state (without_returns raw)) raw (nat_lt 0 (length raws))

  pub read-more : (state : StateText) (raw : List ℕ) (raws : List (List ℕ))
      → let line = line_at state raw raws in
      let later = read (passed (entered state (without_returns raw)) line) raws in
      read state (raw ∷ raws) ≡ as_title (title_of line later) line ∷ later
  read-more state raw raws = grind (arith, cases_Bool, titles-more, title-same)

  -- what holds of each line that is read, a title or not, holds of all of them
  pub read-all : (P : LineText → Type 0) (Q : List ℕ → Type 0) → ((state : StateText) (raw : List ℕ)
      (fed is : Bool) → Q raw → P (as_title is (line_as_read options state raw fed)))
      → (raws : List (List ℕ)) (state : StateText) → All Q raws → All P (read state raws)
  read-all P Q each [] state all = All-nil P
  read-all P Q each (raw ∷ raws) state all =
      let at = entered state (without_returns raw) in
      let line = line_at state raw raws in
      let later = read (passed at line) raws in
      subst (All P) (sym (read-more state raw raws)) (All-cons P (as_title (title_of line later) line) later
      (each at raw (nat_lt 0 (length raws)) (title_of line later) (All-head Q raw raws all))
      (read-all P Q each raws (passed at line) (All-tail Q raw raws all)))

  -- the first line that is read, and those behind it
  pub record IsPeeled (state : StateText) (line : LineText) (lines : List LineText)
      (raws : List (List ℕ)) : Type 0 where
    pub raw : List ℕ
    pub left : List (List ℕ)
    pub whole : raws ≡ raw ∷ left
    pub here : line ≡ as_title (title_of (line_at state raw left) lines) (line_at state raw left)
    pub later : lines ≡ read (passed (entered state (without_returns raw)) (line_at state raw left)) left

  pub peel : (state : StateText) (raws : List (List ℕ)) (line : LineText) (lines : List LineText)
      → line ∷ lines ≡ read state raws → IsPeeled state line lines raws
  peel state [] line lines is = absurd (omega (arith, ap length is))
  peel state (raw ∷ raws) line lines is = grind (arith, cases_Bool, read-more)

-- a line that does not stand apart is no title
pub untitled : (is : Bool) (line titled : LineText) → titled ≡ as_title is line
    → titled.apart ≡ false → (titled ≡ line) × (line.apart ≡ false) × (is ≡ false)
untitled is line titled same apart = grind (arith, cases_Bool, or-right, as-title-none, or-left)

-- ---- words that may close a block comment

abbrev pub NoClose : Bool → List ℕ → Type 0
NoClose in_block word = (in_block && contains (codes "*/") word) ≡ false

-- one of them but the last does, or the last not at its end
abbrev pub closes_badly : List (List ℕ) → Bool
closes_badly [] = false
closes_badly (word ∷ []) = contains (codes "*/") word && ends_early word
closes_badly (word ∷ next ∷ words) = contains (codes "*/") word || closes_badly (next ∷ words)

-- only the last may, and at its end
abbrev pub AreClosing : Bool → List (List ℕ) → Type 0
AreClosing in_block words = (in_block && closes_badly words) ≡ false

pub closing-before : (in_block : Bool) (words later : List (List ℕ)) → All (NoClose in_block) words
    → AreClosing in_block later → AreClosing in_block (words ++ later)
closing-before false words later all are = refl
closing-before true [] later all are = are
closing-before true (word ∷ words) later all are =
    let rest = closing-before true words later (All-tail (NoClose true) word words all) are in
    grind (arith, cases_Bool, All-head, rest)

masked-all : (in_block : Bool) (words : List SpacedText) → (in_block && closes_block words) ≡ false
    → All (NoClose in_block) (words_in words)
masked-all false words is =
    All-map (NoClose false) (λ w. w.word) words (λ k d within. refl)
masked-all true words is =
    All-map (NoClose true) (λ w. w.word) words (any-none (λ w. contains (codes "*/") w.word) words is)

closing-is : (words : List SpacedText)
    → (closes_block words && closes_early words) ≡ closes_badly (words_in words)
closing-is [] = refl
closing-is (w ∷ []) = grind (arith, cases_Bool)
closing-is (w ∷ v ∷ ws) = grind (arith, cases_Bool, front-more, last-more, closing-is (v ∷ ws))

pub closing-same : (in_block : Bool) (words : List SpacedText)
    → (in_block && closes_block words && closes_early words)
    ≡ (in_block && closes_badly (words_in words))
closing-same true words = closing-is words
closing-same false words = refl

-- ---- the lines of a paragraph

-- the last of a line and those behind it
abbrev pub last_line : LineText → List LineText → LineText
last_line line [] = line
last_line line (next ∷ lines) = last_line next lines

-- each line goes on with the one before it
abbrev pub AreOneBlock : LineText → List LineText → Type 0
AreOneBlock line [] = ⊤
AreOneBlock line (next ∷ lines) = (goes_on line next ≡ true) × AreOneBlock next lines

abbrev pub NoColumn : List ℕ → Type 0
NoColumn word = is_column_word word ≡ false

-- what is known of the words of a paragraph's lines
pub record AreTextWords (in_block : Bool) (words : List (List ℕ)) : Type 0 where
  pub plain : All IsPlain words
  pub columns : All (λ w. is_column_word w ≡ false) words
  pub closing : AreClosing in_block words

pub goes-facts : (line next : LineText) → goes_on line next ≡ true
    → (next.apart ≡ false) × (line.ended ≡ false) × (next.prefix ≡ line.hanging)
    × (opens_paragraph (first_word next.words) ≡ false)
goes-facts line next is = grind (arith, cases_Bool, bytes_eq-Decides)

-- what does not close a block comment leaves it as it is
pub open_still : (a c : Bool) → (a && c) ≡ false → (a && not c) ≡ a
open_still a c is = grind (arith, cases_Bool)

ended-none : (in_block : Bool) (words : List SpacedText) → is_ended in_block words ≡ false
    → (in_block && closes_block words) ≡ false
ended-none in_block words is = or-right _ (in_block && closes_block words) is

module _ (options : ReflowOptions) (in_block : Bool) (hanging : List ℕ) where
  -- the paragraph up to its last line, and the lines behind it
  pub record IsWalked (line : LineText) (lines rest : List LineText) (raws : List (List ℕ)) : Type 0 where
    pub done : List (List ℕ)
    pub left : List (List ℕ)
    pub whole : raws ≡ done ++ left
    pub reads : rest ≡ read options (behind_text in_block hanging (last_line line lines).words) left
    pub at : StateText
    pub of : IsOfText options in_block hanging at (last_line line lines)
    pub apart : (last_line line lines).apart ≡ false
    pub title : title_of (last_line line lines) rest ≡ false
    pub fed : (last_line line lines).fed ≡ nat_lt 0 (length left)
    pub words_some : 0 < length (words_of_lines (line ∷ lines))
    pub final : last_text (words_of_lines (line ∷ lines))
        ≡ last_text (words_in (last_line line lines).words)
    pub words : AreTextWords in_block (words_of_lines (line ∷ lines))
    pub texts : AreTextLines options done lines

  pub line-closing : (state : StateText) (line : LineText) → IsOfText options in_block hanging state line
      → AreClosing in_block (words_in line.words)
  line-closing state line of = sym (closing-same in_block line.words) ∙ of.closes

  line-words : (state : StateText) (line : LineText) → IsOfText options in_block hanging state line
      → AreTextWords in_block (words_in line.words)
  line-words state line of = record {
    plain = All-map IsPlain (λ w. w.word) line.words (spaced-plain line.words of.spaced);
    columns = All-map NoColumn (λ w. w.word) line.words (no-columns options.justify line.words of.columns);
    closing = line-closing state line of;
  }

  walk : IsHanging options in_block hanging → (lines : List LineText) (line : LineText) (state : StateText)
      (rest : List LineText) (raws : List (List ℕ)) → IsOfText options in_block hanging state line
      → line.apart ≡ false → title_of line (lines ++ rest) ≡ false → AreOneBlock line lines
      → line.fed ≡ nat_lt 0 (length raws)
      → lines ++ rest ≡ read options (passed state line) raws → IsWalked line lines rest raws
  walk hang [] line state rest raws of apart title one fed is = record {
    done = [];
    left = raws;
    whole = refl;
    reads = is ∙ ap (λ s. read options s raws) of.behind;
    at = state;
    of = of;
    apart = apart;
    title = title;
    fed = fed;
    words_some = omega (
      arith,
      length-append (words_in line.words) [],
      length-map line.words (λ w. w.word),
    );
    final = ap last_text (append-nil (words_in line.words));
    words = subst (AreTextWords in_block) (sym (append-nil (words_in line.words)))
        (line-words state line of);
    texts = no-lines options;
  }
  walk hang (next ∷ lines) line state rest raws of apart title (goes, one) fed is =
      let (level, ended, prefix, opens) = goes-facts line next goes in
      let behind = behind_text in_block hanging line.words in
      let peeled = peel options behind raws next (lines ++ rest)
      (is ∙ ap (λ s. read options s raws) of.behind) in
      let raw = peeled.raw in
      let read_line = line_at options behind raw peeled.left in
      let (same, free, plain) =
      untitled (title_of read_line (lines ++ rest)) read_line next peeled.here level in
      let open_block = ended-none in_block line.words (sym of.ends ∙ ended) in
      let hung : read_line.prefix ≡ hanging =
      sym (ap (λ (l : LineText). l.prefix) same) ∙ prefix ∙ of.hangs in
      let fed_next = nat_lt 0 (length peeled.left) in
      let of_read = later-line options in_block hanging hang behind raw fed_next
      (open_still in_block (closes_block line.words) open_block) free hung in
      let walked = walk hang lines next behind rest peeled.left
      (subst (IsOfText options in_block hanging behind) (sym same) of_read) level
      (ap (λ l. title_of l (lines ++ rest)) same ∙ plain) one (ap (λ (l : LineText). l.fed) same)
      (peeled.later ∙ ap (λ l. read options (passed behind l) peeled.left) (sym same)) in
      let own = line-words state line of in
      let mine = words_in line.words in
      let others = words_of_lines (next ∷ lines) in record {
        done = raw ∷ walked.done;
        left = walked.left;
        whole = peeled.whole ∙ ap (λ l. raw ∷ l) walked.whole;
        reads = walked.reads;
        at = walked.at;
        of = walked.of;
        apart = walked.apart;
        title = walked.title;
        fed = walked.fed;
        words_some = omega (arith, walked.words_some, length-append mine others);
        final = last-behind mine others walked.words_some ∙ walked.final;
        words = record {
          plain = All-append IsPlain mine others own.plain walked.words.plain;
          columns = All-append NoColumn mine others own.columns walked.words.columns;
          closing = closing-before in_block mine others (masked-all in_block line.words open_block)
              walked.words.closing;
        };
        texts = subst (λ l. AreTextLines options (raw ∷ walked.done) (l ∷ lines)) (sym same)
            (more-lines options in_block hanging hang behind raw fed_next walked.done lines of_read hung
            walked.texts);
      }

module _ (options : ReflowOptions) where
  -- a paragraph's first line as it is read, and the walk over the others
  pub record IsParagraph (state : StateText) (raw : List ℕ) (first : LineText)
      (lines rest : List LineText) : Type 0 where
    pub fed : Bool
    pub behind : List (List ℕ)
    pub has : IsRead options state raw
    pub is : first ≡ read_as options state raw has fed
    pub apart : (read_as options state raw has fed).apart ≡ false
    pub walked : IsWalked options (read_block options state raw has)
        (read_as options state raw has fed).hanging
        (read_as options state raw has fed) lines rest behind

  pub paragraph-at : (state : StateText) (raws : List (List ℕ)) (first : LineText)
      (lines rest : List LineText) → first ∷ (lines ++ rest) ≡ read options state raws
      → first.apart ≡ false → AreOneBlock first lines
      → (raw : List ℕ) × (p : IsParagraph (entered state (without_returns raw)) raw first lines rest)
      × (raws ≡ raw ∷ p.behind)
  paragraph-at state raws first lines rest reads apart one =
      let peeled = peel options state raws first (lines ++ rest) reads in
      let raw = peeled.raw in
      let at = entered state (without_returns raw) in
      let fed = nat_lt 0 (length peeled.left) in
      let read_line = line_at options state raw peeled.left in
      let (same, free, plain) =
      untitled (title_of read_line (lines ++ rest)) read_line first peeled.here apart in
      let has = line-read options at raw in
      let here = read_as options at raw has fed in
      let is : read_line ≡ here = read-line options at raw has fed in
      let whole = same ∙ is in
      let level : here.apart ≡ false = sym (ap (λ (l : LineText). l.apart) whole) ∙ apart in
      let title : title_of here (lines ++ rest) ≡ false =
      sym (ap (λ l. title_of l (lines ++ rest)) is) ∙ plain in
      let later : lines ++ rest ≡ read options (passed at here) peeled.left =
      peeled.later ∙ ap (λ l. read options (passed at l) peeled.left) is in (
        raw,
        record {
          fed = fed;
          behind = peeled.left;
          has = has;
          is = whole;
          apart = level;
          walked = walk options (read_block options at raw has) here.hanging
              (first-hangs options at raw fed has level)
              lines here at rest peeled.left (first-text options at raw fed has level) level title
              (subst (λ l. AreOneBlock l lines) whole one) refl later;
        },
        peeled.whole,
      )

pub first-of-words : (ws : List SpacedText) (others : List (List ℕ)) (word : List ℕ) (words : List (List ℕ))
    → 0 < length ws → words_in ws ++ others ≡ word ∷ words → first_word ws ≡ word
first-of-words [] others word words some is = absurd (omega (arith, some))
first-of-words (w ∷ ws) others word words some is = ap (λ l. get_or l 0 []) is
