-- The printed lines of a division are lines of the paragraph's words, with blanks between them.
use Rattle.textwrap_display.proofs.Common.{widened_words, chunks-from, indent_len, line_bytes, justified, ◌%◌}
use Rattle.textwrap_display.proofs.Common.{words_of, chunks, Slice, tiled, gaps}
use Rattle.textwrap_display.proofs.WidenedWords.{widened_chunks, widened-text}
use Rattle.textwrap_marked.proofs.PrintedLines.{texts_more}
use Rattle.textwrap_text.proofs.Common.{cond_both, eq-eqb, min, ◌/◌}
use Rattle.textwrap_marked_laws.proofs as own
use own.Common.{LineText, WordText, all-left, is_blank, covered, word_of, blanks, get_or, length, nat_lt, not}
use own.Common.{ReflowOptions, append_assoc, shown_lines, IsDivision, append-nil, cases_Bool, first_room, All}
use own.Common.{later_room, line_texts, onto_first, text_width, all-right, line_text, All-head, All-tail, map}
use own.Common.{ne_eqb, pieces, arith, blank, false, subst, Bool, List, cond, drop, flat, refl, take, true, ℕ}
use own.{Common.{◌++◌, ◌==◌, ◌||◌, sym, ◌+◌, ◌-◌, ◌<◌, ◌∙◌, ◌∷◌, ◌≡◌, ◌≢◌, ◌≤◌, [], ap}, SpacedBack.IsInk}
use own.{LineWords.{division-words, AreCutInto, all_shown, ink-blank, joined, shown}, SpacedBack.IsPlain}

-- ---- the chunks of a line

ink-onto : (c x : ℕ) (xs : List ℕ) → IsInk c → chunks (c ∷ x ∷ xs) ≡ onto_first c (chunks (x ∷ xs))
ink-onto c x xs ink = grind (arith, cases_Bool, ink-blank)

chunks-one : (c : ℕ) (cs : List ℕ) → All IsInk (c ∷ cs) → chunks (c ∷ cs) ≡ (c ∷ cs) ∷ []
chunks-one c [] ink = refl
chunks-one c (d ∷ cs) ink =
    ink-onto c d cs (All-head IsInk c (d ∷ cs) ink)
    ∙ ap (onto_first c) (chunks-one d cs (All-tail IsInk c (d ∷ cs) ink))

chunks-word : (word : List ℕ) (d : ℕ) (ds : List ℕ) → All IsInk word → is_blank d ≡ false
    → chunks (word ++ blank ∷ d ∷ ds) ≡ (word ++ blank ∷ []) ∷ chunks (d ∷ ds)
chunks-word [] d ds ink other =
    ap (λ b. cond (not b) ((blank ∷ []) ∷ chunks (d ∷ ds)) (onto_first blank (chunks (d ∷ ds)))) other
chunks-word (c ∷ []) d ds ink other =
    ink-onto c blank (d ∷ ds) (All-head IsInk c [] ink)
    ∙ ap (onto_first c) (chunks-word [] d ds (All-tail IsInk c [] ink) other)
chunks-word (c ∷ x ∷ word) d ds ink other =
    ink-onto c x (word ++ blank ∷ d ∷ ds) (All-head IsInk c (x ∷ word) ink)
    ∙ ap (onto_first c) (chunks-word (x ∷ word) d ds (All-tail IsInk c (x ∷ word) ink) other)

-- a line begins with no blank
shown-begins : (justify : Bool) (more : ℕ → ℕ) (word : List ℕ) (words : List (List ℕ)) → IsPlain word
    → (d : ℕ) × (ds : List ℕ) × (shown justify more (word ∷ words) ≡ d ∷ ds) × (is_blank d ≡ false)
shown-begins justify more [] words plain = absurd (omega (arith, plain.some))
shown-begins justify more (d ∷ word) [] plain =
    (d, (word ++ []) ++ [], refl, ink-blank d (All-head IsInk d word plain.ink))
shown-begins justify more (d ∷ word) (next ∷ words) plain =
    (d, _, refl, ink-blank d (All-head IsInk d word plain.ink))

-- ---- a line whose gaps are widened

-- how many blanks more stand in the gap before a word with so many others behind it, where so many do
-- behind the second one
abbrev wider : ℕ → ℕ → ℕ → ℕ → ℕ
wider each extra all n = each + min (extra - (all - n)) 1

widened-shown : (each extra all left : ℕ) (word : List ℕ) (words : List (List ℕ))
    → All IsPlain (word ∷ words) → length words ≤ all + 1 → left ≡ extra - (all + 1 - length words)
    → flat (widened_chunks each left (chunks (joined (word ∷ words))))
    ≡ shown true (wider each extra all) (word ∷ words)
widened-shown each extra all left [] words plain few is =
    absurd (omega (arith, (All-head IsPlain [] words plain).some))
widened-shown each extra all left (c ∷ word) [] plain few is =
    let whole = append-nil ((c ∷ word) ++ []) ∙ append-nil (c ∷ word) in
    ap (λ t. flat (widened_chunks each left (chunks t))) whole
    ∙ ap (λ l. flat (widened_chunks each left l))
    (chunks-one c word (All-head IsPlain (c ∷ word) [] plain).ink)
    ∙ append-nil (c ∷ word) ∙ sym whole
widened-shown each extra all left (c ∷ word) (next ∷ words) plain few is =
    let first = c ∷ word in
    let ink = (All-head IsPlain first (next ∷ words) plain).ink in
    let later = All-tail IsPlain first (next ∷ words) plain in
    let (d, ds, begins, other) = shown-begins false (λ n. 0) next words (All-head IsPlain next words later) in
    let parts = chunks-from d ds in
    let here : left ≡ extra - (all - length words) = omega (arith, is, few) in
    let rest = shown true (wider each extra all) (next ∷ words) in
    ap (λ t. flat (widened_chunks each left (chunks ((first ++ blank ∷ []) ++ t)))) begins
    ∙ ap (λ t. flat (widened_chunks each left (chunks t))) (append_assoc first (blank ∷ []) (d ∷ ds))
    ∙ ap (λ l. flat (widened_chunks each left l)) (chunks-word first d ds ink other)
    ∙ ap (λ l. flat (widened_chunks each left ((first ++ blank ∷ []) ∷ l))) parts.shape
    ∙ ap (λ l. ((first ++ blank ∷ []) ++ blanks (each + min left 1)) ++ flat (widened_chunks each (left - 1) l))
    (sym parts.shape)
    ∙ ap (λ t. ((first ++ blank ∷ []) ++ blanks (each + min left 1))
    ++ flat (widened_chunks each (left - 1) (chunks t))) (sym begins)
    ∙ ap (λ l. ((first ++ blank ∷ []) ++ blanks (each + min left 1)) ++ l)
    (widened-shown each extra all (left - 1) next words later (omega (arith, few)) (omega (arith, few, is)))
    ∙ ap (λ n. ((first ++ blank ∷ []) ++ blanks (each + min n 1)) ++ rest) here
    ∙ ap (λ l. l ++ rest)
    (append_assoc first (blank ∷ []) (blanks (wider each extra all (length words))))

-- without a blank more
plain-shown : (words : List (List ℕ)) → joined words ≡ shown true (λ n. 0) words
plain-shown [] = refl
plain-shown (word ∷ []) = refl
plain-shown (word ∷ next ∷ words) =
    ap (λ l. (word ++ blank ∷ []) ++ l) (plain-shown (next ∷ words))

abbrev IsShown : List ℕ → List (List ℕ) → Type 0
IsShown text words = (more : ℕ → ℕ) × (text ≡ shown true more words)

justified-shown : (room : ℕ) (words : List (List ℕ)) → words ≢ [] → All IsPlain words
    → IsShown (line_bytes (justified room (joined words))) words
justified-shown room [] some plain = absurd (some refl)
justified-shown room (word ∷ words) some plain =
    let line = joined (word ∷ words) in
    let spare = room - text_width line in
    let each = spare / gaps line in
    let extra = spare % gaps line in
    let all = length words in
    cond_both ((spare == 0) || (gaps line == 0)) (Slice line) _
    (λ l. IsShown (line_bytes l) (word ∷ words))
    (λ stays. (λ n. 0, plain-shown (word ∷ words)))
    (λ other.
    let (d, ds, begins, ink) = shown-begins false (λ n. 0) word words (All-head IsPlain word words plain) in
    let none : indent_len line ≡ 0 =
    ap indent_len begins ∙ ap (λ b. cond b (1 + indent_len ds) 0) ink in (
      wider each (extra + 1) all,
      ap (λ n. take n line ++ tiled (widened_words each extra (words_of (drop n line)))) none
          ∙ widened-text each extra (chunks line)
          ∙ widened-shown each (extra + 1) all extra word words plain (omega arith) (omega arith),
    ))

-- a line of a division, with its gaps widened or not
line-shown : (justify : Bool) (room : ℕ) (line : List WordText) (words : List (List ℕ)) → words ≢ []
    → All IsPlain words → covered line ≡ joined words → IsShown (line_text justify room line) words
line-shown true room line words some plain is =
    subst (λ t. IsShown (line_bytes (justified room t)) words) (sym is) (justified-shown room words some plain)
line-shown false room line words some plain is = (λ n. 0, is ∙ plain-shown words)

-- ---- the lines of a division

all-same : (wide other : ℕ → ℕ → ℕ) (lines : List (List (List ℕ)))
    → ((n : ℕ) → n < length lines → other n ≡ wide n) → all_shown true other lines ≡ all_shown true wide lines
all-same wide other [] same = refl
all-same wide other (words ∷ lines) same =
    grind (arith, cases_Bool, all-same wide other lines (λ n less. same n (omega (arith, less))))

abbrev AreShown : Bool → List (List ℕ) → List (List (List ℕ)) → Type 0
AreShown justify texts lines = (wide : ℕ → ℕ → ℕ) × (texts ≡ all_shown justify wide lines)

none-shown : (lines : List (List (List ℕ))) → map joined lines ≡ all_shown false (λ n m. 0) lines
none-shown [] = refl
none-shown (words ∷ lines) = ap (λ l. joined words ∷ l) (none-shown lines)

-- one line more in front
more-shown : (text : List ℕ) (texts : List (List ℕ)) (words : List (List ℕ)) (lines : List (List (List ℕ)))
    → IsShown text words → AreShown true texts lines → AreShown true (text ∷ texts) (words ∷ lines)
more-shown text texts words lines (more, is) (wide, are) =
    let here : ℕ → ℕ → ℕ = λ n. cond (n == length lines) more (wide n) in
    let first : here (length lines) ≡ more =
    ap (λ b. cond b more (wide (length lines))) (eq-eqb (length lines) (length lines) refl) in (
      here,
      ap (λ t. t ∷ texts) is ∙ ap (λ l. shown true more words ∷ l) are
          ∙ ap (λ g. shown true g words ∷ all_shown true wide lines) (sym first)
          ∙ ap (λ l. shown true (here (length lines)) words ∷ l) (sym (all-same wide here lines
          (λ n less. ap (λ b. cond b more (wide n)) (ne_eqb n (length lines) (λ e. omega (arith, less, e)))))),
    )

module _ (options : ReflowOptions) (starred : Bool) where
  widened-lines : (room later : ℕ) (division : List (List WordText)) (words : List (List ℕ))
      (lines : List (List (List ℕ))) → All IsPlain words → AreCutInto options starred words lines
      → map covered division ≡ map joined lines → AreShown true (line_texts true room later division) lines
  widened-lines room later [] words [] plain cut is = (λ n m. 0, refl)
  widened-lines room later [] words (own ∷ lines) plain cut is = absurd (omega (arith, ap length is))
  widened-lines room later (line ∷ division) words [] plain cut is = absurd (omega (arith, ap length is))
  widened-lines room later (line ∷ division) words (own ∷ lines) plain (behind, some, parts, may, cut) is =
      let each = subst (All IsPlain) parts plain in
      subst (λ texts. AreShown true texts (own ∷ lines)) (sym (texts_more true room later line division))
      (more-shown (line_text (nat_lt 0 (length division)) room line) (line_texts true later later division)
      own lines (line-shown (nat_lt 0 (length division)) room line own some (all-left IsPlain own behind each)
      (ap (λ l. get_or l 0 []) is))
      (widened-lines later later division behind lines (all-right IsPlain own behind each) cut
      (ap (drop 1) is)))

  plain-lines : (room later : ℕ) (division : List (List WordText))
      → line_texts false room later division ≡ map covered division
  plain-lines room later [] = refl
  plain-lines room later (line ∷ []) = refl
  plain-lines room later (line ∷ next ∷ division) =
      ap (λ l. covered line ∷ l) (plain-lines later later (next ∷ division))

  texts-shown : (justify : Bool) (room later : ℕ) (division : List (List WordText)) (words : List (List ℕ))
      (lines : List (List (List ℕ))) → All IsPlain words → AreCutInto options starred words lines
      → map covered division ≡ map joined lines
      → AreShown justify (line_texts justify room later division) lines
  texts-shown true room later division words lines plain cut is =
      widened-lines room later division words lines plain cut is
  texts-shown false room later division words lines plain cut is =
      (λ n m. 0, plain-lines room later division ∙ is ∙ none-shown lines)

-- the lines of a paragraph of these words
pub lines-shown : (options : ReflowOptions) (first : LineText) (words : List (List ℕ)) → words ≢ []
    → All IsPlain words → (division : List (List WordText))
    → IsDivision (map word_of (pieces options first.starred words)) division
    → (lines : List (List (List ℕ))) × (wide : ℕ → ℕ → ℕ)
    × AreCutInto options first.starred words lines
    × (shown_lines options first division ≡ all_shown options.justify wide lines)
lines-shown options first words some plain division divided =
    let (lines, cut, is) = division-words options first.starred words some plain division divided in
    let (wide, are) = texts-shown options first.starred options.justify (first_room options first)
    (later_room options first) division words lines plain cut is in
    (lines, wide, cut, are)
