-- The words of a paragraph's last line, the last of them, and what stands behind it.
use Rattle.textwrap_marks.{proofs.Letterless.dots-plain, specs.Signs.{is_example_key, first_white, may_go_on}}
use Rattle.textwrap_marked_laws.proofs as own
use own.Common.{ReflowOptions, closes_block, closes_early, begins_text, break_white, SpacedText, append-nil}
use own.Common.{cases_Bool, filled_end, first_word, last_white, and-false, deeper_by, ending_if, ends_with, ℕ}
use own.Common.{last_word, All-cons, LineText, bytes_eq, contains, none-any, or-false, All-nil, is_cut, arith}
use own.Common.{length, nat_eq, codes, false, subst, Bool, List, cond, drop, refl, true, ◌&&◌, ◌++◌, ◌||◌, []}
use own.OpenBehind.{text-other}
use own.TextBlocks.{closing-before, closes_badly, closing-same, AreClosing, last_line, NoClose}
use own.{Common.{All, not, sym, ◌-◌, ◌<◌, ◌∙◌, ◌∷◌, ◌≡◌, ◌≢◌, ap}, SpacedBack.{AreSpaced, words_in, IsWhite}}
use own.{LineWords.{MayPart, spread}, SpreadWords.{spread-words, spread-any, last-more, last_text}}

-- ---- the last of some texts

-- a line may end behind the last of these words, where they are parted from those
pub part-cut : (options : ReflowOptions) (starred : Bool) (words : List (List ℕ)) (word : List ℕ)
    (later : List (List ℕ)) → words ≢ [] → MayPart options starred words (word ∷ later)
    → is_cut options starred (last_text words) (word ∷ later) ≡ true
part-cut options starred [] word later some may = absurd (some refl)
part-cut options starred (v ∷ []) word later some may = may
part-cut options starred (v ∷ w ∷ words) word later some may =
    part-cut options starred (w ∷ words) word later (λ none. cc) may

pub cut-facts : (options : ReflowOptions) (starred : Bool) (last word : List ℕ) (later : List (List ℕ))
    → is_cut options starred last (word ∷ later) ≡ true
    → (ends_with nat_eq last (codes "\\") ≡ false) × (may_go_on options starred word ≡ true)
cut-facts options starred last word later is =
    facts (ends_with nat_eq last (codes "\\")) (may_go_on options starred word) is
  where
    facts : (a b : Bool) → not (a || not b) ≡ true → (a ≡ false) × (b ≡ true)
    facts a b is = grind (arith, cases_Bool)

-- ---- what closes a block comment

closing-parts : (a c r : Bool) → (a && (c || r)) ≡ false → ((a && c) ≡ false) × ((a && r) ≡ false)
closing-parts a c r is = grind (arith, cases_Bool)

pub closing-after : (in_block : Bool) (words : List (List ℕ)) (word : List ℕ) (later : List (List ℕ))
    → AreClosing in_block (words ++ word ∷ later)
    → All (NoClose in_block) words × AreClosing in_block (word ∷ later)
closing-after in_block [] word later are = (All-nil (NoClose in_block), are)
closing-after in_block (v ∷ []) word later are = grind (arith, cases_Bool, closing-parts, All-cons, All-nil)
closing-after in_block (v ∷ w ∷ words) word later are =
    let (none, behind) =
    closing-parts in_block (contains (codes "*/") v) (closes_badly (w ∷ (words ++ word ∷ later))) are in
    let (all, rest) = closing-after in_block (w ∷ words) word later behind in
    (All-cons (NoClose in_block) v (w ∷ words) none all, rest)

pub closing-alone : (in_block : Bool) (words : List (List ℕ)) → All (NoClose in_block) words
    → AreClosing in_block words
closing-alone in_block words all =
    subst (AreClosing in_block) (append-nil words) (closing-before in_block words [] all (and-false in_block))

pub spread-none : (in_block justify : Bool) (gaps : ℕ → ℕ) (words : List (List ℕ)) (end : List ℕ)
    → All (NoClose in_block) words → (in_block && closes_block (spread justify gaps words end)) ≡ false
spread-none false justify gaps words end all = refl
spread-none true justify gaps words end all =
    spread-any justify gaps (λ w. contains (codes "*/") w) words end
    ∙ none-any (λ w. contains (codes "*/") w) words all

pub spread-free : (in_block justify : Bool) (gaps : ℕ → ℕ) (words : List (List ℕ)) (end : List ℕ)
    → AreClosing in_block words → let ws = spread justify gaps words end in
    (in_block && closes_block ws && closes_early ws) ≡ false
spread-free in_block justify gaps words end are = grind (arith, cases_Bool, closing-same, spread-words)

-- whether they close one, the last says
pub closes-last : (in_block : Bool) (words : List SpacedText) → 0 < length words
    → AreClosing in_block (words_in words) → (in_block && closes_block words)
    ≡ (in_block && contains (codes "*/") (last_text (words_in words)))
closes-last in_block [] some are = absurd (omega (arith, some))
closes-last in_block (w ∷ []) some are = ap (λ b. in_block && b) (or-false (contains (codes "*/") w.word))
closes-last in_block (w ∷ v ∷ ws) some are =
    let (none, rest) = closing-parts in_block (contains (codes "*/") w.word)
    (closes_badly (words_in (v ∷ ws))) are in
    more in_block (contains (codes "*/") w.word) (closes_block (v ∷ ws)) none
    ∙ closes-last in_block (v ∷ ws) (omega arith) rest
  where
    more : (a b c : Bool) → (a && b) ≡ false → (a && (b || c)) ≡ (a && c)
    more a b c is = grind (arith, cases_Bool)

-- ---- by how much later text is deeper

abbrev depth_if : Bool → ℕ
depth_if b = cond b 1 4

abbrev pub deeper_behind : List ℕ → Bool → List ℕ → ℕ
deeper_behind hanging dots last =
    depth_if (ends_with nat_eq last (codes "::") || is_example_key last || bytes_eq hanging (codes " ")
    || dots)

deeper-one : (hanging : List ℕ) (starred : Bool) (words : List SpacedText)
    → begins_text starred (first_word words) ≡ true
    → deeper_by hanging words ≡ deeper_behind hanging false (last_word words)
deeper-one hanging starred words begins = grind (arith, cases_Bool, text-other, dots-plain)

pub deeper-same : (hanging : List ℕ) (starred other : Bool) (words others : List SpacedText)
    → begins_text starred (first_word words) ≡ true → begins_text other (first_word others) ≡ true
    → last_word words ≡ last_word others → deeper_by hanging words ≡ deeper_by hanging others
deeper-same hanging starred other words others begins begin same = grind (arith, cases_Bool, deeper-one)

-- ---- what stands behind the last line

drop-last : (line : LineText) (lines : List LineText)
    → drop (length (line ∷ lines) - 1) (line ∷ lines) ≡ last_line line lines ∷ []
drop-last line [] = refl
drop-last line (next ∷ lines) = last-more line (next ∷ lines) (omega arith) ∙ drop-last next lines

abbrev pub ends_as : List ℕ → LineText → List ℕ
ends_as ending line = break_white line ++ ending_if line.fed ending

pub filled-last : (ending : List ℕ) (line : LineText) (lines : List LineText)
    → filled_end ending (line ∷ lines) ≡ ends_as ending (last_line line lines)
filled-last ending line lines = grind (arith, cases_Bool, drop-last, append-nil)

pub break-same : (line : LineText)
    → ends_with nat_eq (break_white line) (codes "  ") ≡ ends_with nat_eq (last_white line.words) (codes "  ")
break-same line = grind (arith, cases_Bool)

-- a line that ends in what is left of this one's white ends in the same
pub break-again : (line other : LineText) → last_white other.words ≡ break_white line
    → break_white other ≡ break_white line
break-again line other is = grind (arith, cases_Bool, break-same)

white-last : (ws : List SpacedText) → AreSpaced ws → All IsWhite (last_white ws)
white-last [] are = All-nil IsWhite
white-last (w ∷ []) are = are.white
white-last (w ∷ v ∷ ws) are =
    subst (λ l. All IsWhite (first_white l)) (sym (last-more w (v ∷ ws) (omega arith)))
    (white-last (v ∷ ws) are.2)

pub break-spaced : (line : LineText) → AreSpaced line.words → All IsWhite (break_white line)
break-spaced line are = grind (arith, cases_Bool, white-last, All-nil)
