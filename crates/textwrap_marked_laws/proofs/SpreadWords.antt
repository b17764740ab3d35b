-- Words with blanks between them, as the words of a line's text.
use Rattle.textwrap_marks.proofs.Letterless.{quote-plain, box-plain}
use Rattle.textwrap_marks.{specs.Marks.is_among, specs.Signs.{first_white, may_go_on, is_gap}}
use Rattle.textwrap_text.proofs.Common.{not-true}
use Rattle.textwrap_marked_laws.proofs as own
use own.Common.{All-cons, All-head, All-tail, bytes_eq, is_quote, list_any, none-any, All-nil, length, arith}
use own.Common.{ReflowOptions, is_comment_at, append_assoc, begins_text, has_columns, spaced_text, SpacedText}
use own.Common.{append-nil, cases_Bool, first_word, last_white, quotes_len, true≢false, is_bullet, last_word}
use own.Common.{blank, codes, false, Bool, List, cond, drop, refl, take, true, ◌&&◌, ◌++◌, ◌==◌, ◌||◌, All, ℕ}
use own.Common.{false_from_ne_true, words_before_last, opens_paragraph, is_column_word, All-replicate, blanks}
use own.{Common.{suc, sym, ◌-◌, ◌<◌, ◌∙◌, ◌∷◌, ◌≡◌, [], ap}, OpenBehind.{text-letter, text-other}}
use own.{HangingForms.HasNoMark, LaterLines.bullets-none, LineKinds.one_if}
use own.{LineWords.{spread, shown, gap}, SpacedBack.{spaced-cons, AreSpaced, words_in, IsPlain, IsWhite}}

-- a gap is white
pub gap-white : (justify : Bool) (gaps : ℕ → ℕ) (n : ℕ) → All IsWhite (gap justify gaps n)
gap-white true gaps n =
    All-cons IsWhite blank (blanks (gaps n)) refl (All-replicate IsWhite (gaps n) blank refl)
gap-white false gaps n = All-cons IsWhite blank [] refl (All-nil IsWhite)

module _ (justify : Bool) (gaps : ℕ → ℕ) where
  -- a word before so many others
  abbrev pub with_gap : List ℕ → List (List ℕ) → SpacedText
  with_gap word words = record { word = word; white = gap justify gaps (length words) }

  pub spread-first : (word : List ℕ) (words : List (List ℕ)) (end : List ℕ)
      → first_word (spread justify gaps (word ∷ words) end) ≡ word
  spread-first word [] end = refl
  spread-first word (next ∷ words) end = refl

  pub spread-len : (words : List (List ℕ)) (end : List ℕ)
      → length (spread justify gaps words end) ≡ length words
  spread-len [] end = refl
  spread-len (word ∷ []) end = refl
  spread-len (word ∷ next ∷ words) end = ap suc (spread-len (next ∷ words) end)

  pub spread-words : (words : List (List ℕ)) (end : List ℕ) → words_in (spread justify gaps words end) ≡ words
  spread-words [] end = refl
  spread-words (word ∷ []) end = refl
  spread-words (word ∷ next ∷ words) end = ap (λ l. word ∷ l) (spread-words (next ∷ words) end)

  pub spread-spaced : (words : List (List ℕ)) (end : List ℕ) → All IsPlain words → All IsWhite end
      → AreSpaced (spread justify gaps words end)
  spread-spaced [] end plain white = tt
  spread-spaced (word ∷ []) end plain white =
      record { word = All-head IsPlain word [] plain; white = white }
  spread-spaced (word ∷ next ∷ words) end plain white =
      spaced-cons (with_gap word words) (spread justify gaps (next ∷ words) end) (record {
        word = All-head IsPlain word (next ∷ words) plain;
        white = gap-white justify gaps (length words);
      }) (λ more. omega arith)
      (spread-spaced (next ∷ words) end (All-tail IsPlain word (next ∷ words) plain) white)

  -- the white at the end stands behind the text
  pub spread-end : (word : List ℕ) (words : List (List ℕ)) (end : List ℕ)
      → spaced_text (spread justify gaps (word ∷ words) end) ≡ shown justify gaps (word ∷ words) ++ end
  spread-end word [] end =
      append-nil (word ++ end) ∙ ap (λ l. l ++ end) (sym (append-nil (word ++ []) ∙ append-nil word))
  spread-end word (next ∷ words) end = grind (arith, cases_Bool, append_assoc, spread-end next words end)

  -- what is asked of each word
  pub spread-any : (test : List ℕ → Bool) (words : List (List ℕ)) (end : List ℕ)
      → list_any (λ w. test w.word) (spread justify gaps words end) ≡ list_any test words
  spread-any test [] end = refl
  spread-any test (word ∷ []) end = refl
  spread-any test (word ∷ next ∷ words) end =
      ap (λ b. test word || b) (spread-any test (next ∷ words) end)

-- ---- the last of them

pub last-more : {X : Type 0} (x : X) (xs : List X) → 0 < length xs
    → drop (length (x ∷ xs) - 1) (x ∷ xs) ≡ drop (length xs - 1) xs
last-more x xs some =
    let less : length (x ∷ xs) - 1 ≡ suc (length xs - 1) =
    omega (arith, some) in ap (λ n. drop n (x ∷ xs)) less

pub front-more : (w : SpacedText) (ws : List SpacedText) → 0 < length ws
    → words_before_last (w ∷ ws) ≡ w ∷ words_before_last ws
front-more w ws some =
    let less : length (w ∷ ws) - 1 ≡ suc (length ws - 1) =
    omega (arith, some) in ap (λ n. take n (w ∷ ws)) less

-- the last of some texts
abbrev pub last_text : List (List ℕ) → List ℕ
last_text [] = []
last_text (word ∷ []) = word
last_text (word ∷ next ∷ words) = last_text (next ∷ words)

pub last-word : (ws : List SpacedText) → last_word ws ≡ last_text (words_in ws)
last-word [] = refl
last-word (w ∷ []) = refl
last-word (w ∷ v ∷ ws) = ap first_word (last-more w (v ∷ ws) (omega arith)) ∙ last-word (v ∷ ws)

pub spread-last : (justify : Bool) (gaps : ℕ → ℕ) (words : List (List ℕ)) (end : List ℕ)
    → last_word (spread justify gaps words end) ≡ last_text words
spread-last justify gaps words end =
    last-word (spread justify gaps words end) ∙ ap last_text (spread-words justify gaps words end)

pub spread-white : (justify : Bool) (gaps : ℕ → ℕ) (word : List ℕ) (words : List (List ℕ)) (end : List ℕ)
    → last_white (spread justify gaps (word ∷ words) end) ≡ end
spread-white justify gaps word [] end = refl
spread-white justify gaps word (next ∷ words) end =
    ap first_white (last-more (with_gap justify gaps word words) (spread justify gaps (next ∷ words) end)
    (omega (arith, spread-len justify gaps (next ∷ words) end))) ∙ spread-white justify gaps next words end

-- ---- no columns

-- blanks are no gap where lines are justified, and one is none anywhere
gap-none : (justify : Bool) (gaps : ℕ → ℕ) (n : ℕ) (word : List ℕ)
    → is_gap justify (record { word = word; white = gap justify gaps n }) ≡ false
gap-none true gaps n word =
    ap (λ b. b || false) (none-any (λ c. c == 9) (blanks (gaps n))
    (All-replicate (λ c. (c == 9) ≡ false) (gaps n) blank refl))
gap-none false gaps n word = refl

gaps-none : (justify : Bool) (gaps : ℕ → ℕ) (words : List (List ℕ)) (end : List ℕ)
    → list_any (is_gap justify) (words_before_last (spread justify gaps words end)) ≡ false
gaps-none justify gaps [] end = refl
gaps-none justify gaps (word ∷ []) end = refl
gaps-none justify gaps (word ∷ next ∷ words) end =
    grind (arith, cases_Bool, front-more, spread-len, gap-none, gaps-none justify gaps (next ∷ words) end)

pub spread-columns : (justify : Bool) (gaps : ℕ → ℕ) (words : List (List ℕ)) (end : List ℕ)
    → All (λ w. is_column_word w ≡ false) words → has_columns justify (spread justify gaps words end) ≡ false
spread-columns justify gaps words end none =
    ap (λ b. b || list_any (is_gap justify) (words_before_last (spread justify gaps words end)))
    (spread-any justify gaps is_column_word words end ∙ none-any is_column_word words none)
    ∙ gaps-none justify gaps words end

-- ---- what may not begin a line

three-parts : (a b c d : Bool) → (a && b && c && d) ≡ true → (a ≡ true) × (b ≡ true) × (c ≡ true) × (d ≡ true)
three-parts a b c d is = grind (arith, cases_Bool)

-- a word that may go on with a paragraph
pub record MayGoOn (options : ReflowOptions) (starred : Bool) (word : List ℕ) : Type 0 where
  pub begins : begins_text starred word ≡ true
  pub opens : opens_paragraph word ≡ false
  pub bullet : is_bullet word ≡ false
  pub marker : is_among word options.markers.now ≡ false

pub goes-on : (options : ReflowOptions) (starred : Bool) (word : List ℕ)
    → may_go_on options starred word ≡ true → MayGoOn options starred word
goes-on options starred word is = grind (arith, cases_Bool, three-parts, not-true)

pub text-no-quote : (starred : Bool) (word : List ℕ) → begins_text starred word ≡ true → is_quote word ≡ false
text-no-quote starred word begins =
    false_from_ne_true (is_quote word)
    (λ quote. true≢false (sym (text-letter starred word begins) ∙ quote-plain word quote))

-- words that begin with such a one are no marks
pub no-mark : (options : ReflowOptions) (in_block starred : Bool) (word : List ℕ) (ws : List SpacedText)
    → first_word ws ≡ word → begins_text starred word ≡ true → is_bullet word ≡ false
    → is_comment_at options in_block word ≡ false → HasNoMark options in_block ws
no-mark options in_block starred word [] is begins bullet comment = record {
  comment = refl;
  quote = refl;
  bullet = refl;
}
no-mark options in_block starred word (w ∷ ws) is begins bullet comment = record {
  comment = ap (λ v. one_if (is_comment_at options in_block v)) is ∙ ap one_if comment;
  quote = ap (λ v. cond (is_quote v) (suc (quotes_len ws)) 0) is
      ∙ ap (λ b. cond b (suc (quotes_len ws)) 0) (text-no-quote starred word begins);
  bullet = bullets-none w ws (ap is_bullet is ∙ bullet)
      (ap (λ v. bytes_eq v (codes "[")) is ∙ text-other starred word (codes "[") begins box-plain);
}
