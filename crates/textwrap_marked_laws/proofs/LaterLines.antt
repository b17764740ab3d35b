-- Lines of a paragraph, and lines of other words behind the same marks.
use Rattle.textwrap_marked_lines.proofs.FirstWords.{comment_is}
use Rattle.textwrap_marked_laws.proofs as own
use own.Common.{Bool, List, cond, refl, true, ◌&&◌, ◌++◌, suc, sym, ◌+◌, ◌<◌, ◌∙◌, ◌∷◌, ◌≡◌, [], ap, ℕ}
use own.Common.{flat_map-append, hanging_bullets, without_returns, ReflowOptions, is_comment_at, append_assoc}
use own.Common.{has_columns, spaced_text, cases_Bool, first_word, quotes_len, true≢false, StateText, LineText}
use own.Common.{has_words, is_bullet, bytes_eq, is_ended, is_box, length, passed, arith, codes, false, subst}
use own.Common.{length-append, closes_block, closes_early, line_as_read, begins_text, bullets_len, SpacedText}
use own.LineKinds.{hanging_of, HaveKinds, kinds-cut, line-is, line_by, none-if, one_if, Kinds, kinds}
use own.OpenBehind.{behind-free, behind_text, apart-free, starred_at, block_at, begun}
use own.{HangingForms.{quotes-all, quotes-are}, SpacedBack.{IsLineText, AreSpaced, line-text}}

-- ---- what is read of a line

-- the white in front, and the words of each kind
pub record IsRead (options : ReflowOptions) (state : StateText) (raw : List ℕ) : Type 0 where
  pub lead : List ℕ
  pub cs : List SpacedText
  pub qs : List SpacedText
  pub bs : List SpacedText
  pub ws : List SpacedText
  pub text : IsLineText (without_returns raw) lead (cs ++ (qs ++ (bs ++ ws)))
  pub have : HaveKinds options state.in_block cs qs bs ws

pub line-read : (options : ReflowOptions) (state : StateText) (raw : List ℕ) → IsRead options state raw
line-read options state raw =
    let (lead, words, is) = line-text (without_returns raw) in
    let (cs, qs, bs, ws, parts, have) = kinds-cut options state.in_block words in record {
      lead = lead;
      cs = cs;
      qs = qs;
      bs = bs;
      ws = ws;
      text = subst (IsLineText (without_returns raw) lead) parts is;
      have = have;
    }

pub regroup : (cs qs bs ws : List SpacedText) → cs ++ (qs ++ (bs ++ ws)) ≡ (cs ++ (qs ++ bs)) ++ ws
regroup cs qs bs ws =
    ap (λ l. cs ++ l) (sym (append_assoc qs bs ws)) ∙ sym (append_assoc cs (qs ++ bs) ws)

pub text-parts : (ks ws : List SpacedText) → spaced_text (ks ++ ws) ≡ spaced_text ks ++ spaced_text ws
text-parts ks ws = flat_map-append (λ w. w.word ++ w.white) ks ws

module _ (options : ReflowOptions) (state : StateText) (raw : List ℕ) (r : IsRead options state raw) where
  abbrev pub read_kinds : Kinds
  read_kinds = kinds r.lead r.cs r.qs r.bs r.ws

  -- the line that is read, and whether it is in a block comment
  abbrev pub read_as : Bool → LineText
  read_as fed = line_by options state raw fed read_kinds

  abbrev pub read_block : Bool
  read_block = block_at state read_kinds

  -- the marks before the text
  abbrev pub read_marks : List SpacedText
  read_marks = r.cs ++ (r.qs ++ r.bs)

  pub read-line : (fed : Bool) → line_as_read options state raw fed ≡ read_as fed
  read-line fed = line-is r.lead r.cs r.qs r.bs r.ws options state raw fed r.text r.have

  pub read-spaced : AreSpaced (read_marks ++ r.ws)
  read-spaced = subst AreSpaced (regroup r.cs r.qs r.bs r.ws) r.text.spaced

  -- a line is its prefix and its text
  pub read-split : without_returns raw ≡ (r.lead ++ spaced_text read_marks) ++ spaced_text r.ws
  read-split = grind (arith, cases_Bool, text-parts, append_assoc)

-- a line of a paragraph with this hanging form, in a block comment or not
pub record IsOfText (options : ReflowOptions) (in_block : Bool) (hanging : List ℕ) (state : StateText)
    (line : LineText) : Type 0 where
  pub hangs : line.hanging ≡ hanging
  pub behind : passed state line ≡ behind_text in_block hanging line.words
  pub starred : Bool
  pub begins : begins_text starred (first_word line.words) ≡ true
  pub columns : has_columns options.justify line.words ≡ false
  pub closes : (in_block && closes_block line.words && closes_early line.words) ≡ false
  pub ends : line.ended ≡ is_ended in_block line.words
  pub spaced : AreSpaced line.words
  pub some : 0 < length line.words

pub words-some : (ws : List SpacedText) → has_words ws ≡ true → 0 < length ws
words-some [] is = absurd (true≢false (sym is))
words-some (w ∷ ws) is = omega arith

pub text-line : (options : ReflowOptions) (in_block : Bool) (hanging : List ℕ) (state : StateText)
    (raw : List ℕ) (fed : Bool) (k : Kinds) → (line_by options state raw fed k).apart ≡ false
    → block_at state k ≡ in_block → hanging_of options.bare k ++ hanging_bullets k.bullets ≡ hanging
    → AreSpaced k.words → IsOfText options in_block hanging state (line_by options state raw fed k)
text-line options in_block hanging state raw fed k apart block hangs spaced =
    let (at, are) = apart-free options state raw fed k apart in record {
      hangs = hangs;
      behind = behind-free options state raw fed k at are
          ∙ ap (λ b. behind_text b (hanging_of options.bare k ++ hanging_bullets k.bullets) k.words) block
          ∙ ap (λ h. behind_text in_block h k.words) hangs;
      starred = starred_at options state k;
      begins = are.begins;
      columns = are.columns;
      closes = subst (λ b. (b && closes_block k.words && closes_early k.words) ≡ false) block are.closes;
      ends = ap (λ b. is_ended b k.words) block;
      spaced = spaced;
      some = words-some k.words (begun (starred_at options state k) k.words are.begins);
    }

-- ---- lines with other words

first-same : (ks xs bs : List SpacedText) → first_word xs ≡ first_word bs
    → first_word (ks ++ xs) ≡ first_word (ks ++ bs)
first-same [] xs bs same = same
first-same (k ∷ ks) xs bs same = refl

quote-none : (xs bs : List SpacedText) → 0 < length xs → quotes_len xs ≡ 0
    → first_word xs ≡ first_word bs → quotes_len bs ≡ 0
quote-none [] bs some none same = absurd (omega (arith, some))
quote-none (a ∷ xs) [] some none same = refl
quote-none (a ∷ xs) (b ∷ bs) some none same = grind (arith, cases_Bool, none-if)

-- no bullet begins these words
pub bullets-none : (w : SpacedText) (ws : List SpacedText) → is_bullet w.word ≡ false
    → bytes_eq w.word (codes "[") ≡ false → bullets_len (w ∷ ws) ≡ 0
bullets-none w [] none box = ap one_if none
bullets-none w (v ∷ ws) none box = grind (arith, cases_Bool)

bullet-none : (xs bs : List SpacedText) → 0 < length xs → bullets_len xs ≡ 0
    → first_word xs ≡ first_word bs → bytes_eq (first_word xs) (codes "[") ≡ false → bullets_len bs ≡ 0
bullet-none [] bs some none same box = absurd (omega (arith, some))
bullet-none (a ∷ xs) [] some none same box = refl
bullet-none (a ∷ xs) (b ∷ bs) some none same box =
    bullets-none b bs (ap is_bullet (sym same) ∙ first xs none)
    (ap (λ w. bytes_eq w (codes "[")) (sym same) ∙ box)
  where
    first : (xs : List SpacedText) → bullets_len (a ∷ xs) ≡ 0 → is_bullet a.word ≡ false
    first [] is = none-if (is_bullet a.word) 0 0 is
    first (v ∷ xs) is = none-if (is_bullet a.word) (bullets_len (v ∷ xs)) _ is

abbrev bullets_by : SpacedText → SpacedText → List SpacedText → Bool → Bool → ℕ
bullets_by b c ws t u = cond t (suc (bullets_len (c ∷ ws))) (cond u (suc (suc (bullets_len ws))) 0)

pub one-bullet : (t u : Bool) (n m : ℕ) → cond t (suc n) (cond u (suc (suc m)) 0) ≡ 1 → (t ≡ true) × (n ≡ 0)
one-bullet true u n m is = (refl, omega (arith, is))
one-bullet false true n m is = absurd (omega (arith, is))
one-bullet false false n m is = absurd (omega (arith, is))

-- these are all the bullets, whatever follows that begins as what follows them
bullets-same : (bs xs others : List SpacedText) → 0 < length xs
    → (bullets_len xs ≡ 0 → bullets_len others ≡ 0) → bullets_len (bs ++ xs) ≡ length bs
    → bullets_len (bs ++ others) ≡ length bs
bullets-same [] xs others some none is = none is
bullets-same (b ∷ []) [] others some none is = absurd (omega (arith, some))
bullets-same (b ∷ []) (a ∷ xs) others some none is =
    let (first, len) =
    one-bullet (is_bullet b.word) (is_box b a) (bullets_len (a ∷ xs)) (bullets_len xs) is in
    one others first (none len)
  where
    one : (others : List SpacedText) → is_bullet b.word ≡ true → bullets_len others ≡ 0
        → bullets_len (b ∷ others) ≡ 1
    one [] first none = ap one_if first
    one (v ∷ others) first none = ap (λ t. bullets_by b v others t (is_box b v)) first ∙ ap suc none
bullets-same (b ∷ c ∷ bs) xs others some none is =
    cut (is_bullet b.word) (is_box b c) (bullets-same (c ∷ bs) xs others some none)
    (bullets-same bs xs others some none) is
  where
    cut : (t u : Bool)
        → (bullets_len (c ∷ (bs ++ xs)) ≡ length (c ∷ bs) → bullets_len (c ∷ (bs ++ others)) ≡ length (c ∷ bs))
        → (bullets_len (bs ++ xs) ≡ length bs → bullets_len (bs ++ others) ≡ length bs)
        → bullets_by b c (bs ++ xs) t u ≡ length (b ∷ c ∷ bs)
        → bullets_by b c (bs ++ others) t u ≡ length (b ∷ c ∷ bs)
    cut true u one two is = ap suc (one (omega (arith, is)))
    cut false true one two is = ap (λ n. suc (suc n)) (two (omega (arith, is)))
    cut false false one two is = absurd (omega (arith, is))

-- words that begin with the same one have the same marks before them
pub kinds-first : (options : ReflowOptions) (in_block : Bool) (cs qs bs ws others : List SpacedText)
    → HaveKinds options in_block cs qs bs ws → 0 < length ws → 0 < length others
    → first_word ws ≡ first_word others → bytes_eq (first_word ws) (codes "[") ≡ false
    → HaveKinds options in_block cs qs bs others
kinds-first options in_block cs qs bs ws others have some more same box =
    let quoted = quotes-are qs (bs ++ ws) have.quote in
    let no_quote : quotes_len (bs ++ ws) ≡ 0 =
    omega (arith, have.quote, quotes-all qs (bs ++ ws) quoted) in record {
      comment = comment_is options in_block (cs ++ (qs ++ (bs ++ others)))
          (omega (arith, length-append {A = SpacedText}, more)) ∙ ap (λ w. one_if (is_comment_at options in_block w))
          (first-same cs (qs ++ (bs ++ others)) (qs ++ (bs ++ ws))
          (first-same qs (bs ++ others) (bs ++ ws) (first-same bs others ws (sym same))))
          ∙ sym (comment_is options in_block (cs ++ (qs ++ (bs ++ ws)))
          (omega (arith, length-append {A = SpacedText}, some)))
          ∙ have.comment;
      quote = quotes-all qs (bs ++ others) quoted
          ∙ ap (λ n. length qs + n) (quote-none (bs ++ ws) (bs ++ others)
          (omega (arith, length-append bs ws, some)) no_quote (first-same bs ws others same)) ∙ omega arith;
      bullet = bullets-same bs ws others some (λ none. bullet-none ws others some none same box) have.bullet;
    }
