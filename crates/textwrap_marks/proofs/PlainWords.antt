-- Plain words: each word that no paragraph contains has one of a few bytes, and they have none.
use Rattle.textwrap_marks.proofs.Common.{bytes_eq, contains, list_any, false, subst, List, refl, true, ap}
use Rattle.textwrap_marks.proofs.Common.{false_from_ne_true, spaced_words, SpacedText, true≢false, codes}
use Rattle.textwrap_marks.proofs.Common.{◌++◌, ◌==◌, not, sym, ◌∙◌, ◌≡◌, ℕ}
use Rattle.textwrap_marks.proofs.ContainedTexts.{contains-lacks, begins-lacks}
use Rattle.textwrap_marks.proofs.ListLemmas.{told-apart, flat-each, any-none, none-any}
use Rattle.textwrap_marks.specs.Signs.{is_column_byte, is_column_word, any_contains, ArePlain}
use Rattle.textwrap_marks.{proofs.WordCuts.words-text, specs.Words.has_byte}
use Rattle.textwrap_text.proofs.{Common.All-weaker, Common.eqb-true, Common.All, Lists.Parts.all-left}

abbrev Other : ℕ → Type 0
Other c = is_column_byte c ≡ false

plain-word : (word : List ℕ) → list_any is_column_byte word ≡ false → is_column_word word ≡ false
plain-word word none =
    let differs : (other : List ℕ) → list_any is_column_byte other ≡ true → bytes_eq word other ≡ false =
    λ other some. told-apart (λ w. not (list_any is_column_byte w)) word other (ap not none) (ap not some) in
    let not_lines = begins-lacks is_column_byte (codes "//") word refl none in
    let not_opening = begins-lacks is_column_byte (codes "/*") word refl none in
    let not_return : has_byte 13 word ≡ false =
    none-any (λ c. c == 13) word (All-weaker Other (λ c. (c == 13) ≡ false) (λ c other.
    false_from_ne_true (c == 13) (λ same. true≢false (sym (ap is_column_byte (eqb-true c 13 same)) ∙ other)))
    word (any-none is_column_byte word none)) in
    let not_label = contains-lacks is_column_byte (codes "]:") word refl none in
    let not_pre = contains-lacks is_column_byte (codes "<pre") word refl none in
    rw (
      differs (codes "|") refl,
      differs (codes "=") refl,
      not_lines,
      not_opening,
      differs (codes "#") refl,
      differs (codes "%") refl,
      differs (codes "%%") refl,
      differs (codes "--") refl,
      differs (codes ";") refl,
      differs (codes ";;") refl,
      differs (codes ";;;") refl,
      not_return,
      not_label,
      not_pre,
    ) refl

pub plain-none : (words : List SpacedText) → ArePlain words
    → list_any (λ w. is_column_word w.word) words ≡ false
plain-none words plain =
    none-any (λ w. is_column_word w.word) words
    (All-weaker (λ w. list_any is_column_byte w.word ≡ false) (λ w. is_column_word w.word ≡ false)
    (λ w. plain-word w.word) words plain)

pub plain-contains : (part : List ℕ) → list_any is_column_byte part ≡ true → (words : List SpacedText)
    → ArePlain words → any_contains part words ≡ false
plain-contains part some words plain =
    none-any (λ w. contains part w.word) words
    (All-weaker (λ w. list_any is_column_byte w.word ≡ false) (λ w. contains part w.word ≡ false)
    (λ w. contains-lacks is_column_byte part w.word some) words plain)

-- the words of a line without such a byte
pub words-plain : (line : List ℕ) → list_any is_column_byte line ≡ false
    → ArePlain (spaced_words line)
words-plain line none =
    let all = subst (All Other) (sym (words-text line)) (any-none is_column_byte line none) in
    All-weaker (λ w. All Other (w.word ++ w.white)) (λ w. list_any is_column_byte w.word ≡ false)
    (λ w bytes. none-any is_column_byte w.word (all-left Other w.word w.white bytes)) (spaced_words line)
    (flat-each Other (λ w. w.word ++ w.white) (spaced_words line) all)
