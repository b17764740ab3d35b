-- What the wrong bodies of must-fail/ answer on worked rows, and that no contract allows it: each
-- theorem bears the name of its edit.
use Rattle.textwrap_text.proofs.Common.{[], ◌-◌, ◌∷◌, ◌≡◌, ◌∙◌, ℕ, List, ap, arith, codes, length, refl, sym}
use Rattle.textwrap_words.proofs.Common.{AreWordsOf, ends_in_hyphen, hyphen, word_of, WordText}
use Rattle.textwrap_words.proofs.Word.Words.{words_unique}
use Rattle.textwrap_words.specs.Breaking.{broken_pieces}
use Rattle.textwrap_words.specs.LineEnds.{lines_between}
use Rattle.textwrap_words.specs.WordOffsets.{words_at}
use Rattle.textwrap_words.specs.WordSplitters.{AreSplit, cut_penalty}
use Rattle.textwrap_words.specs.Words.{piece}
use Rattle.std.specs.Prelude.{take, true}
use Rattle.std.specs.Str.{chars}
use Rattle.unicode_width.specs.Width.{char_width}

-- ---- words between blanks

abbrev first_of : List WordText → WordText
first_of [] = word_of []
first_of (w ∷ words) = w

-- The word of "foo " has a blank behind it.
pub blanks_at_the_end_of_a_line_lost :
    AreWordsOf (codes "foo ") (word_of (codes "foo") ∷ []) → ⊥
blanks_at_the_end_of_a_line_lost words =
    let none : 0 ≡ 1 = ap (λ (ws : List WordText). length (first_of ws).whitespace)
    ((words_unique (codes "foo ") (word_of (codes "foo") ∷ [])).0 words) in
    absurd (omega (arith, none))

-- ---- split words

-- Whatever the points of "foo-bar" are, "foo-" needs no hyphen.
pub hyphen_added_at_every_point : (Points : List ℕ → List ℕ → Type 0) → AreSplit Points
    (word_of (codes "foo-bar") ∷ [])
    (piece (codes "foo-") [] (hyphen ∷ []) ∷ piece (codes "bar") [] [] ∷ []) → ⊥
hyphen_added_at_every_point Points ([], rest, may, rest_are, is) =
    let none : 1 ≡ 0 = ap (λ (ws : List WordText). length (first_of ws).penalty) is in
    absurd (omega (arith, none))
hyphen_added_at_every_point Points (point ∷ points, rest, may, rest_are, is) =
    let text = codes "foo-bar" in
    let word : codes "foo-" ≡ take (point - 0) text =
    ap (λ (ws : List WordText). (first_of ws).word) is in
    let same : point ≡ point - 0 = omega arith in
    let hyphened : ends_in_hyphen (take point text) ≡ true =
    ap (λ (n : ℕ). ends_in_hyphen (take n text)) same ∙ ap ends_in_hyphen (sym word) in
    let penalty : 1 ≡ length (cut_penalty text point) =
    ap (λ (ws : List WordText). length (first_of ws).penalty) is in
    let none : length (cut_penalty text point) ≡ 0 = rw hyphened refl in
    absurd (omega (arith, penalty, none))

-- ---- broken words

abbrev coloured : List ℕ
coloured = codes "ab\u{1b}[0mcd"

pieces-coloured : broken_pieces 2 (word_of coloured)
    ≡ piece (codes "ab\u{1b}[0m") [] [] ∷ piece (codes "cd") [] [] ∷ []
unfolding chars char_width lib.Utf8.encode
pieces-coloured = refl

-- The sequence stays with the piece before it.
pub cut_inside_an_escape_sequence : piece (codes "ab\u{1b}") [] [] ∷ piece (codes "[0") [] []
    ∷ piece (codes "mc") [] [] ∷ piece (codes "d") [] [] ∷ []
    ≡ broken_pieces 2 (word_of coloured) → ⊥
cut_inside_an_escape_sequence is =
    let four : 4 ≡ 2 = ap length (is ∙ pieces-coloured) in absurd (omega (arith, four))

-- ---- words at offsets

words-coloured : length (words_at (3 ∷ []) (codes "\u{1b}[0mfoobar")) ≡ 2
unfolding chars char_width lib.Utf8.encode
words-coloured = refl

-- Behind three visible characters the line is cut, and behind three characters of its own it is
-- not.
pub offsets_counted_with_escape_sequences : word_of (codes "\u{1b}[0mfoobar") ∷ []
    ≡ words_at (3 ∷ []) (codes "\u{1b}[0mfoobar") → ⊥
offsets_counted_with_escape_sequences is =
    let one : 1 ≡ 2 = ap length is ∙ words-coloured in absurd (omega (arith, one))

-- ---- lines between ends

-- The second line has no words, and stands.
pub empty_line_left_out_between_equal_ends : {X : Type 0} (x y : X)
    → (x ∷ []) ∷ (y ∷ []) ∷ [] ≡ lines_between (1 ∷ 1 ∷ 2 ∷ []) (x ∷ y ∷ []) → ⊥
empty_line_left_out_between_equal_ends x y is =
    let two : 2 ≡ 3 = ap length is in absurd (omega (arith, two))
