-- A hanging form is white and marks that a line behind it is read with, by kind.
use Rattle.textwrap_text.{proofs.Common.nil_from_length, proofs.Lists.Parts.same_parts}
use Rattle.textwrap_marked_laws.proofs as own
use own.Common.{All-replicate, ReflowOptions, is_comment_at, length-append, append_assoc, bullets_len, blanks}
use own.Common.{All-tail, all-left, bytes_eq, is_quote, or-false, length, arith, blank, codes, false, subst}
use own.Common.{Bool, List, cond, refl, true, zero, ◌++◌, ◌||◌, sym, ◌+◌, ◌<◌, ◌∙◌, ◌∷◌, ◌≡◌, ◌≤◌, [], ap, ℕ}
use own.Common.{comment_len, spaced_text, All-append, All-weaker, SpacedText, append-nil, cases_Bool, All-nil}
use own.Common.{is_comment_opening, bytes_eq-Decides, hanging_comments, flat_map-append, hanging_bullets, All}
use own.Common.{quotes_len, text_width, told-apart, true≢false, all-right, each-flat, All-cons, All-head, suc}
use own.LineKinds.{has_opening_in, comment-most, hanging_of, HaveKinds, none-if, some-if, one_if, kinds}
use own.{Common.⊤, SpacedBack.{spaced-cons, AreSpaced, plain-one, IsSpaced, words_in, IsWhite}}

-- ---- words with white behind each

pub record IsFull (w : SpacedText) : Type 0 where
  pub spaced : IsSpaced w
  pub some : 0 < length w.white

pub full-before : (ks ws : List SpacedText) → All IsFull ks → AreSpaced ws → AreSpaced (ks ++ ws)
full-before [] ws full are = are
full-before (k ∷ ks) ws full are =
    let own = All-head IsFull k ks full in
    spaced-cons k (ks ++ ws) own.spaced (λ more. own.some) (full-before ks ws (All-tail IsFull k ks full) are)

spaced-parts : (w : SpacedText) (ws : List SpacedText) → 0 < length ws → AreSpaced (w ∷ ws)
    → IsFull w × AreSpaced ws
spaced-parts w [] some are = absurd (omega (arith, some))
spaced-parts w (v ∷ ws) some are = (record { spaced = are.0; some = are.1 }, are.2)

pub before-full : (ks ws : List SpacedText) → 0 < length ws → AreSpaced (ks ++ ws)
    → All IsFull ks × AreSpaced ws
before-full [] ws some are = (All-nil IsFull, are)
before-full (k ∷ ks) ws some are =
    let (own, later) = spaced-parts k (ks ++ ws) (omega (arith, some, length-append ks ws)) are in
    let (full, rest) = before-full ks ws some later in (All-cons IsFull k ks own full, rest)

-- white behind the last of them
abbrev pub onto_last : List SpacedText → List ℕ → List SpacedText
onto_last [] more = []
onto_last (w ∷ []) more = record { word = w.word; white = w.white ++ more } ∷ []
onto_last (w ∷ v ∷ ws) more = w ∷ onto_last (v ∷ ws) more

pub last-text : (w : SpacedText) (ws : List SpacedText) (more : List ℕ)
    → spaced_text (onto_last (w ∷ ws) more) ≡ spaced_text (w ∷ ws) ++ more
last-text w [] more = grind (arith, cases_Bool, append-nil, append_assoc)
last-text w (v ∷ ws) more = grind (arith, cases_Bool, append_assoc, last-text v ws more)

pub last-words : (ws : List SpacedText) (more : List ℕ) → words_in (onto_last ws more) ≡ words_in ws
last-words [] more = refl
last-words (w ∷ []) more = refl
last-words (w ∷ v ∷ ws) more = ap (λ l. w.word ∷ l) (last-words (v ∷ ws) more)

pub last-full : (ws : List SpacedText) (more : List ℕ) → All IsWhite more → All IsFull ws
    → All IsFull (onto_last ws more)
last-full [] more white full = full
last-full (w ∷ []) more white full =
    let is = All-head IsFull w [] full in
    All-cons IsFull _ [] (record {
      spaced = record {
        word = is.spaced.word;
        white = All-append IsWhite w.white more is.spaced.white white;
      };
      some = omega (arith, is.some, length-append w.white more);
    }) (All-nil IsFull)
last-full (w ∷ v ∷ ws) more white full =
    All-cons IsFull w (onto_last (v ∷ ws) more) (All-head IsFull w (v ∷ ws) full)
    (last-full (v ∷ ws) more white (All-tail IsFull w (v ∷ ws) full))

-- ---- quote marks and comment marks

abbrev pub IsQuote : List ℕ → Type 0
IsQuote word = is_quote word ≡ true

pub quotes-all : (qs rest : List SpacedText) → All IsQuote (words_in qs)
    → quotes_len (qs ++ rest) ≡ length qs + quotes_len rest
quotes-all [] rest all = let same : quotes_len rest ≡ 0 + quotes_len rest = omega arith in same
quotes-all (q ∷ qs) rest all =
    ap (λ b. cond b (suc (quotes_len (qs ++ rest))) 0) (All-head IsQuote q.word (words_in qs) all)
    ∙ ap suc (quotes-all qs rest (All-tail IsQuote q.word (words_in qs) all)) ∙ omega arith

pub quotes-are : (qs rest : List SpacedText) → quotes_len (qs ++ rest) ≡ length qs → All IsQuote (words_in qs)
quotes-are [] rest is = All-nil IsQuote
quotes-are (q ∷ qs) rest is =
    let (quote, len) = some-if (is_quote q.word) (quotes_len (qs ++ rest)) (length qs) is in
    All-cons IsQuote q.word (words_in qs) quote (quotes-are qs rest len)

-- `*` is no opening
pub star-no-opening : (word : List ℕ) → bytes_eq word (codes "*") ≡ true → is_comment_opening word ≡ false
star-no-opening word star = ap is_comment_opening ((bytes_eq-Decides word (codes "*")).0 star)

-- ---- what they are

abbrev pub IsFirst : (List ℕ → Bool) → List (List ℕ) → Bool → Type 0
IsFirst test [] is = ⊤
IsFirst test (word ∷ words) is = test word ≡ is

-- a comment mark, if there is one, and quote marks where a block comment is open or not
abbrev pub AreMarks : ReflowOptions → Bool → List (List ℕ) → List (List ℕ) → Type 0
AreMarks options in_block [] qs = IsFirst (is_comment_at options in_block) qs false × All IsQuote qs
AreMarks options in_block (c ∷ []) qs =
    (is_comment_at options in_block c ≡ true) × (is_comment_opening c ≡ false) × All IsQuote qs
AreMarks options in_block (c ∷ d ∷ cs) qs = ⊥

pub marks-quotes : (options : ReflowOptions) (in_block : Bool) (cs qs : List (List ℕ))
    → AreMarks options in_block cs qs → All IsQuote qs
marks-quotes options in_block [] qs are = are.1
marks-quotes options in_block (c ∷ []) qs are = are.2
marks-quotes options in_block (c ∷ d ∷ cs) qs are = absurd are

pub marks-comments : (options : ReflowOptions) (in_block : Bool) (cs qs : List SpacedText)
    → AreMarks options in_block (words_in cs) (words_in qs)
    → (length cs ≤ 1) × All (λ w. is_comment_at options in_block w.word ≡ true) cs
marks-comments options in_block [] qs are =
    (omega arith, All-nil (λ w. is_comment_at options in_block w.word ≡ true))
marks-comments options in_block (c ∷ []) qs are = grind (arith, cases_Bool, All-cons, All-nil)
marks-comments options in_block (c ∷ d ∷ cs) qs are = absurd are

-- a text that begins with no mark
pub record HasNoMark (options : ReflowOptions) (in_block : Bool) (words : List SpacedText) : Type 0 where
  pub comment : comment_len options in_block words ≡ 0
  pub quote : quotes_len words ≡ 0
  pub bullet : bullets_len words ≡ 0

module _ (options : ReflowOptions) (in_block : Bool) (cs qs : List SpacedText)
    (are : AreMarks options in_block (words_in cs) (words_in qs)) where
  all-quotes : All IsQuote (words_in qs)
  all-quotes = marks-quotes options in_block (words_in cs) (words_in qs) are

  comment-count : (words : List SpacedText)
      → (length cs + length qs ≡ 0 → comment_len options in_block words ≡ 0)
      → comment_len options in_block (cs ++ (qs ++ words)) ≡ length cs
  comment-count words none = cut cs qs are none
    where
      cut : (cs qs : List SpacedText) → AreMarks options in_block (words_in cs) (words_in qs)
          → (length cs + length qs ≡ 0 → comment_len options in_block words ≡ 0)
          → comment_len options in_block (cs ++ (qs ++ words)) ≡ length cs
      cut [] [] are none = none (omega arith)
      cut [] (q ∷ qs) are none = ap one_if are.0
      cut (c ∷ []) qs are none = ap one_if are.0
      cut (c ∷ d ∷ cs) qs are none = absurd are

  pub marks-kinds : (words : List SpacedText) → HasNoMark options in_block words
      → HaveKinds options in_block cs qs [] words
  marks-kinds words lacks = grind (arith, cases_Bool, comment-count, quotes-all, all-quotes)

  -- other words of the kinds that a line with the same marks has
  pub kinds-same : (ds rs bs words : List SpacedText) → HaveKinds options in_block ds rs bs words
      → ds ++ (rs ++ bs) ≡ cs ++ qs → (ds ≡ cs) × (rs ≡ qs) × (bs ≡ [])
  kinds-same ds rs bs words have same =
      let whole : ds ++ (rs ++ (bs ++ words)) ≡ cs ++ (qs ++ words) =
      ap (λ l. ds ++ l) (sym (append_assoc rs bs words)) ∙ sym (append_assoc ds (rs ++ bs) words)
      ∙ ap (λ l. l ++ words) same ∙ append_assoc cs qs words in
      let total : length ds + (length rs + length bs) ≡ length cs + length qs =
      omega (arith, ap length same, length-append ds (rs ++ bs), length-append rs bs, length-append cs qs)
      in
      let count : length ds ≡ length cs = counted (length cs + length qs) refl whole total in
      let (first, behind) = same_parts ds cs (rs ++ (bs ++ words)) (qs ++ words) whole count in
      let quotes : length rs ≡ length qs + quotes_len words =
      sym have.quote ∙ ap quotes_len behind ∙ quotes-all qs words all-quotes in
      let none : length bs ≡ 0 = omega (arith, quotes, total, count) in
      let (marks, rest) = same_parts rs qs (bs ++ words) words behind (omega (arith, quotes, total, count)) in
      (first, marks, nil_from_length bs none)
    where
      counted : (n : ℕ) → length cs + length qs ≡ n → ds ++ (rs ++ (bs ++ words)) ≡ cs ++ (qs ++ words)
          → length ds + (length rs + length bs) ≡ length cs + length qs → length ds ≡ length cs
      counted zero is whole total = omega (arith, is, total)
      counted (suc n) is whole total =
          sym have.comment ∙ ap (comment_len options in_block) whole
          ∙ comment-count words (λ none. absurd (omega (arith, is, none)))

  -- such a line hangs from itself
  pub hangs-same : (bare : Bool) (lead : List ℕ) (words : List SpacedText)
      → hanging_of bare (kinds lead cs qs [] words) ≡ lead ++ spaced_text (cs ++ qs)
  hangs-same bare lead words = cut cs are
    where
      cut : (cs : List SpacedText) → AreMarks options in_block (words_in cs) (words_in qs)
          → (lead ++ hanging_comments bare cs) ++ spaced_text qs ≡ lead ++ spaced_text (cs ++ qs)
      cut [] are = ap (λ l. l ++ spaced_text qs) (append-nil lead)
      cut (c ∷ []) are =
          ap (λ b. (lead ++ ((cond b (cond bare (blanks (text_width c.word)) (codes " *")) c.word ++ c.white)
          ++ []))
          ++ spaced_text qs) are.1
          ∙ ap (λ l. (lead ++ l) ++ spaced_text qs) (append-nil (c.word ++ c.white))
          ∙ append_assoc lead (c.word ++ c.white) (spaced_text qs)
      cut (c ∷ d ∷ cs) are = absurd are

  pub opens-none : has_opening_in cs ≡ false
  opens-none = cut cs are
    where
      cut : (cs : List SpacedText) → AreMarks options in_block (words_in cs) (words_in qs)
          → has_opening_in cs ≡ false
      cut [] are = refl
      cut (c ∷ []) are = ap (λ b. b || false) are.1
      cut (c ∷ d ∷ cs) are = absurd are

-- what holds of blanks, and of the white behind bullets, holds of their hanging form
pub bullets-all : (P : ℕ → Type 0) → P 32 → (bs : List SpacedText) → All (λ w. All P w.white) bs
    → All P (hanging_bullets bs)
bullets-all P blank bs all =
    each-flat P (λ w. blanks (text_width w.word) ++ w.white) bs (All-weaker (λ w. All P w.white)
    (λ w. All P (blanks (text_width w.word) ++ w.white)) (λ w white. All-append P (blanks (text_width w.word))
    w.white (All-replicate P (text_width w.word) 32 blank) white) bs all)

pub bullets-white : (bs : List SpacedText) → All IsFull bs → All IsWhite (hanging_bullets bs)
bullets-white bs full =
    bullets-all IsWhite refl bs (All-weaker IsFull (λ w. All IsWhite w.white) (λ w is. is.spaced.white) bs full)

-- white and marks that a text is
pub record IsHanging (options : ReflowOptions) (in_block : Bool) (text : List ℕ) : Type 0 where
  pub lead : List ℕ
  pub cs : List SpacedText
  pub qs : List SpacedText
  pub white : All IsWhite lead
  pub full : All IsFull (cs ++ qs)
  pub marks : AreMarks options in_block (words_in cs) (words_in qs)
  pub is : text ≡ lead ++ spaced_text (cs ++ qs)

-- ---- white behind them

pub more-white : (options : ReflowOptions) (in_block : Bool) (text more : List ℕ)
    → IsHanging options in_block text → All IsWhite more → IsHanging options in_block (text ++ more)
more-white options in_block text more h white = cut h.cs h.qs h.full h.marks h.is
  where
    text-both : (ks ws : List SpacedText) → spaced_text (ks ++ ws) ≡ spaced_text ks ++ spaced_text ws
    text-both ks ws = flat_map-append (λ w. w.word ++ w.white) ks ws

    cut : (cs qs : List SpacedText) → All IsFull (cs ++ qs)
        → AreMarks options in_block (words_in cs) (words_in qs) → text ≡ h.lead ++ spaced_text (cs ++ qs)
        → IsHanging options in_block (text ++ more)
    cut [] [] full marks is = record {
      lead = h.lead ++ more;
      cs = [];
      qs = [];
      white = All-append IsWhite h.lead more h.white white;
      full = full;
      marks = marks;
      is = ap (λ t. t ++ more) (is ∙ append-nil h.lead) ∙ sym (append-nil (h.lead ++ more));
    }
    cut (c ∷ []) [] full marks is = record {
      lead = h.lead;
      cs = onto_last (c ∷ []) more;
      qs = [];
      white = h.white;
      full = last-full (c ∷ []) more white full;
      marks = marks;
      is = ap (λ t. t ++ more) is ∙ append_assoc h.lead (spaced_text (c ∷ [])) more
          ∙ ap (λ t. h.lead ++ t) (sym (last-text c [] more));
    }
    cut cs (q ∷ qs) full marks is = record {
      lead = h.lead;
      cs = cs;
      qs = onto_last (q ∷ qs) more;
      white = h.white;
      full = All-append IsFull cs (onto_last (q ∷ qs) more) (all-left IsFull cs (q ∷ qs) full)
          (last-full (q ∷ qs) more white (all-right IsFull cs (q ∷ qs) full));
      marks = subst (AreMarks options in_block (words_in cs)) (sym (last-words (q ∷ qs) more)) marks;
      is = ap (λ t. t ++ more) (is ∙ ap (λ t. h.lead ++ t) (text-both cs (q ∷ qs)))
          ∙ ap (λ t. t ++ more) (sym (append_assoc h.lead (spaced_text cs) (spaced_text (q ∷ qs))))
          ∙ append_assoc (h.lead ++ spaced_text cs) (spaced_text (q ∷ qs)) more
          ∙ ap (λ t. (h.lead ++ spaced_text cs) ++ t) (sym (last-text q qs more))
          ∙ append_assoc h.lead (spaced_text cs) (spaced_text (onto_last (q ∷ qs) more))
          ∙ ap (λ t. h.lead ++ t) (sym (text-both cs (onto_last (q ∷ qs) more)));
    }
    cut (c ∷ d ∷ cs) [] full marks is = absurd marks

-- ---- the margin of a line

-- no opening is the mark inside a block comment
opening-outside : (options : ReflowOptions) (in_block : Bool) (word : List ℕ)
    → is_comment_at options in_block word ≡ true → is_comment_opening word ≡ true → in_block ≡ false
opening-outside options false word comment opening = refl
opening-outside options true word comment opening =
    absurd (true≢false (sym opening ∙ star-no-opening word comment))

star-first : (options : ReflowOptions) (qs : List (List ℕ)) → All IsQuote qs
    → IsFirst (is_comment_at options true) qs false
star-first options [] quote = tt
star-first options (q ∷ qs) quote = told-apart is_quote q (codes "*") (All-head IsQuote q qs quote) refl

module _ (options : ReflowOptions) (in_block : Bool) (lead : List ℕ) (qs rest : List SpacedText)
    (white : All IsWhite lead) (full : All IsFull qs) (quote : All IsQuote (words_in qs)) where
  pub margin-hangs : (bare : Bool) (cs : List SpacedText) → All IsFull cs
      → comment_len options in_block (cs ++ (qs ++ rest)) ≡ length cs
      → IsHanging options (in_block || has_opening_in cs)
      ((lead ++ hanging_comments bare cs) ++ spaced_text qs)
  margin-hangs bare [] full_c count = record {
    lead = lead;
    cs = [];
    qs = qs;
    white = white;
    full = full;
    marks = rw or-false (first qs count, quote);
    is = ap (λ l. l ++ spaced_text qs) (append-nil lead);
  }
    where
      first : (qs : List SpacedText) → comment_len options in_block (qs ++ rest) ≡ 0
          → IsFirst (is_comment_at options in_block) (words_in qs) false
      first [] is = tt
      first (q ∷ qs) is = none-if (is_comment_at options in_block q.word) 0 0 is
  margin-hangs bare (c ∷ d ∷ cs) full_c count =
      absurd (omega (arith, count, comment-most options in_block (c ∷ d ∷ (cs ++ (qs ++ rest)))))
  margin-hangs bare (c ∷ []) full_c count =
      cut (is_comment_opening c.word) bare refl (some-if (is_comment_at options in_block c.word) 0 0 count).0
    where
      own : IsFull c
      own = All-head IsFull c [] full_c

      cut : (o b : Bool) → is_comment_opening c.word ≡ o → is_comment_at options in_block c.word ≡ true
          → IsHanging options (in_block || (o || false))
          ((lead ++ ((cond o (cond b (blanks (text_width c.word)) (codes " *")) c.word ++ c.white) ++ []))
          ++ spaced_text qs)
      cut true b opening comment =
          rw (opening-outside options in_block c.word comment opening) (inside b)
        where
          inside : (b : Bool) → IsHanging options true
              ((lead ++ ((cond b (blanks (text_width c.word)) (codes " *") ++ c.white) ++ []))
              ++ spaced_text qs)
          inside true = record {
            lead = lead ++ (blanks (text_width c.word) ++ c.white);
            cs = [];
            qs = qs;
            white = All-append IsWhite lead (blanks (text_width c.word) ++ c.white) white
                (All-append IsWhite (blanks (text_width c.word)) c.white
                (All-replicate IsWhite (text_width c.word) 32 refl) own.spaced.white);
            full = full;
            marks = (star-first options (words_in qs) quote, quote);
            is = ap (λ l. (lead ++ l) ++ spaced_text qs) (append-nil (blanks (text_width c.word) ++ c.white));
          }
          inside false = record {
            lead = lead ++ 32 ∷ [];
            cs = record { word = codes "*"; white = c.white } ∷ [];
            qs = qs;
            white = All-append IsWhite lead (32 ∷ []) white (All-cons IsWhite 32 [] refl (All-nil IsWhite));
            full = All-cons IsFull _ qs (record {
              spaced = record { word = plain-one 42 refl; white = own.spaced.white };
              some = own.some;
            }) full;
            marks = (refl, refl, quote);
            is = ap (λ l. (lead ++ l) ++ spaced_text qs) (append-nil (codes " *" ++ c.white))
                ∙ append_assoc lead (32 ∷ 42 ∷ c.white) (spaced_text qs)
                ∙ sym (append_assoc lead (32 ∷ []) ((42 ∷ c.white) ++ spaced_text qs));
          }
      cut false b opening comment = record {
        lead = lead;
        cs = c ∷ [];
        qs = qs;
        white = white;
        full = All-cons IsFull c qs own full;
        marks = rw or-false (comment, opening, quote);
        is = ap (λ l. (lead ++ l) ++ spaced_text qs) (append-nil (c.word ++ c.white))
            ∙ append_assoc lead (c.word ++ c.white) (spaced_text qs);
      }

-- a line's hanging form is such
pub hanging-is : (options : ReflowOptions) (in_block : Bool) (lead : List ℕ) (cs qs bs ws : List SpacedText)
    → All IsWhite lead → All IsFull (cs ++ (qs ++ bs)) → HaveKinds options in_block cs qs bs ws
    → IsHanging options (in_block || has_opening_in cs)
    (hanging_of options.bare (kinds lead cs qs bs ws) ++ hanging_bullets bs)
hanging-is options in_block lead cs qs bs ws white full have =
    let behind = all-right IsFull cs (qs ++ bs) full in
    more-white options (in_block || has_opening_in cs) (hanging_of options.bare (kinds lead cs qs bs ws))
    (hanging_bullets bs)
    (margin-hangs options in_block lead qs (bs ++ ws) white (all-left IsFull qs bs behind)
    (quotes-are qs (bs ++ ws) have.quote) options.bare cs (all-left IsFull cs (qs ++ bs) full) have.comment)
    (bullets-white bs (all-right IsFull qs bs behind))
