-- Texts that are written from patterns and exceptions, as they are read.
use Rattle.std.proofs.{Common.{nat_le, chars, leb-true}, lemmas.List.Splits.slice_split_none}
use Rattle.std.proofs.lemmas.Str.{NoCharPasses-byte, char_from_byte, chars-encodes, length-le-encodes}
use Rattle.std.specs.Char.{is_ascii_uppercase, is_whitespace, Unicode.Rows.{by_runs, by_strings}}
use Rattle.std.specs.Char.Unicode.ToLowercase.{lowercase_runs, lowercase_strings, to_lowercase}
use Rattle.std.specs.Str.{NonePass, drop_trailing_whitespace, skip_leading_whitespace, trim, trim_end, trim_start}
use Rattle.textwrap_dictionaries.proofs.Skipped.{comment-skipped}
use Rattle.textwrap_dictionaries.proofs.Words.{AreShown, Bare, bare, is_shown, shown-parts}
use Rattle.textwrap_dictionaries.specs.Dictionaries.{hyphened, is_bare, pattern_line, text_of_lines}
use Rattle.textwrap_dictionaries.specs.Entries.{Said, command_said, is_command, is_list, is_sign, is_unknown}
use Rattle.textwrap_dictionaries.specs.{Entries.word_said, Parsing.{before_comment, is_closed, is_group}}
use Rattle.textwrap_dictionaries.specs.Parsing.{line_said, list_after, listed_said, section_after, tex_after}
use Rattle.textwrap_dictionaries.specs.{Parsing.{tex_said, text_said}, declared.entries.Section.Section}
use Rattle.textwrap_dictionaries.specs.declared.entries.Section.TheVariants.{Listing, Patterns, Exceptions}
use Rattle.textwrap_patterns.proofs.Ascii.{each-of}
use Rattle.textwrap_patterns.specs.{Changes.before, Letters.folded, Places.AreInnerPlaces}
use Rattle.textwrap_text.proofs.Common.{None, ◌==◌, ◌&&◌, ◌||◌, not, nat_lt, prefix_len, slice_split}
use Rattle.textwrap_text.proofs.Common.{encode_utf8_all, lines, strip_carriage_return, take_all, All-from_get_or}
use Rattle.textwrap_text.proofs.Common.{All-weaker, and_parts, cases_lt, eqb-false, eqb-true, le-ltb, ltb-true}
use Rattle.textwrap_text.proofs.Common.{ne_eqb, nat_tests, not-true, scalar, All, All-head, All-tail, Bool, List}
use Rattle.textwrap_text.proofs.Common.{[], ap, arith, cases_Bool, false, false≢true, get_or, inl, inr, length}
use Rattle.textwrap_text.proofs.Common.{map, refl, subst, sym, take, ◌-◌, ◌⊎◌, true, ℕ, ◌+◌, ◌<◌, ◌∙◌, ◌∷◌, ◌≡◌}
use Rattle.textwrap_text.proofs.{Common.{◌≢◌, ◌≤◌}, TextLines.lines-front}

-- ---- texts of characters that are no blanks

abbrev pub is_ink : ℕ → Bool
is_ink c = scalar c && not (is_whitespace c)

abbrev pub AreInk : List ℕ → Type 0
AreInk cs = All (λ c. is_ink c ≡ true) cs

ink-parts : (c : ℕ) → is_ink c ≡ true → (scalar c ≡ true) × (is_whitespace c ≡ false)
ink-parts c is = let both = and_parts (scalar c) (not (is_whitespace c)) is in (both.0, not-true (is_whitespace c) both.1)

ink-scalars : (cs : List ℕ) → AreInk cs → lib.Utf8.scalars cs ≡ true
ink-scalars [] are = refl
ink-scalars (c ∷ cs) are = rw (ink-parts c (All-head (λ d. is_ink d ≡ true) c cs are)).0
    (ink-scalars cs (All-tail (λ d. is_ink d ≡ true) c cs are))

ink-none : (cs : List ℕ) → AreInk cs → NonePass is_whitespace cs
ink-none [] are = tt
ink-none (c ∷ cs) are = (
  (ink-parts c (All-head (λ d. is_ink d ≡ true) c cs are)).1,
  ink-none cs (All-tail (λ d. is_ink d ≡ true) c cs are),
)

chars-ink : (cs : List ℕ) → AreInk cs → chars (encode_utf8_all cs) ≡ cs
chars-ink cs are = chars-encodes cs (ink-scalars cs are)

skip-ink : (cs : List ℕ) → AreInk cs → skip_leading_whitespace cs ≡ cs
skip-ink [] are = refl
skip-ink (c ∷ cs) are = rw (ink-parts c (All-head (λ d. is_ink d ≡ true) c cs are)).1 refl

drop-ink : (cs : List ℕ) → AreInk cs → drop_trailing_whitespace cs ≡ cs
drop-ink [] are = refl
drop-ink (c ∷ cs) are = rw (ink-parts c (All-head (λ d. is_ink d ≡ true) c cs are)).1
    (ap (λ l. c ∷ l) (drop-ink cs (All-tail (λ d. is_ink d ≡ true) c cs are)))

pub trim-ink : (cs : List ℕ) → AreInk cs → trim (encode_utf8_all cs) ≡ encode_utf8_all cs
unfolding trim_start trim_end
trim-ink cs are = grind (arith, nat_tests, chars-ink, skip-ink, drop-ink)

-- no byte of such a text is a blank of ASCII
byte-ink : (cs : List ℕ) (blank i : ℕ) → AreInk cs → blank < 128 → is_whitespace blank ≡ true
    → i < length (encode_utf8_all cs) → get_or (encode_utf8_all cs) i 0 ≢ blank
byte-ink cs blank i are low is within same = false≢true (sym (NoCharPasses-byte is_whitespace (encode_utf8_all cs) i
    (cs, refl, ink-none cs are) within (omega (arith, same, low))) ∙ ap is_whitespace same ∙ is)

feedless : (cs : List ℕ) → AreInk cs → All (λ b. b ≢ 10) (encode_utf8_all cs)
feedless cs are = All-from_get_or (λ b. b ≢ 10) (encode_utf8_all cs) 0
    (λ i within. byte-ink cs 10 i are (omega arith) refl within)

unstripped : (cs : List ℕ) → AreInk cs → strip_carriage_return (encode_utf8_all cs) ≡ encode_utf8_all cs
unstripped cs are = by (encode_utf8_all cs) (λ i within. byte-ink cs 13 i are (omega arith) refl within)
  where
    by : (bs : List ℕ) → ((i : ℕ) → i < length bs → get_or bs i 0 ≢ 13) → strip_carriage_return bs ≡ bs
    by [] none = refl
    by (b ∷ bs) none = elim (cases_Bool (get_or (b ∷ bs) (length (b ∷ bs) - 1) 0 == 13)) [
      | inl is ↦ absurd (none (length (b ∷ bs) - 1) (omega arith) (eqb-true _ 13 is))
      | inr other ↦ rw other refl
    ]

pub text-lines : (ls : List (List ℕ)) → All AreInk ls → lines (text_of_lines ls) ≡ map encode_utf8_all ls
text-lines [] are = refl
text-lines (l ∷ ls) are = lines-front (encode_utf8_all l) (text_of_lines ls) (feedless l ink)
    ∙ ap (λ line. line ∷ lines (text_of_lines ls)) (unstripped l ink)
    ∙ ap (λ rest. encode_utf8_all l ∷ rest) (text-lines ls (All-tail AreInk l ls are))
  where
    ink : AreInk l
    ink = All-head AreInk l ls are

-- ---- words

shown-ink : (c : ℕ) → is_shown c ≡ true → is_ink c ≡ true
shown-ink c is = let parts = shown-parts c is in rw (parts.0, unblank c parts.2) refl
  where
    unblank : (d : ℕ) → is_sign d ≡ false → is_whitespace d ≡ false
    unblank d none = grind (arith, nat_tests)

pub word-ink : (cs : List ℕ) → AreShown cs → AreInk cs
word-ink cs are = All-weaker (λ c. is_shown c ≡ true) (λ c. is_ink c ≡ true) shown-ink cs are

-- a byte with which a comment, a word of libhyphen or a line that begins or ends exceptions begins
abbrev pub is_low : ℕ → Bool
is_low b = (is_ascii_uppercase b || ((b == 0x25) || (b == 0x23))) || ((b == 0x5C) || (b == 0x7D))

or-none : (x y : Bool) → (x || y) ≡ false → (x ≡ false) × (y ≡ false)
or-none false y is = (refl, is)
or-none true y is = absurd (false≢true (sym is))

upper-other : (d b : ℕ) → is_ascii_uppercase d ≡ true → is_ascii_uppercase b ≡ false → (d == b) ≡ false
upper-other d b upper other = grind (arith, nat_tests, eqb-true)

command-none : (b : ℕ) (bs : List ℕ) → is_ascii_uppercase b ≡ false → command_said (b ∷ bs) ≡ None
command-none b bs other = grind (arith, nat_tests, upper-other)

no-command : (b : ℕ) (bs : List ℕ) → is_ascii_uppercase b ≡ false → is_command (b ∷ bs) ≡ false
no-command b [] other = refl
no-command b (c ∷ cs) other = rw other refl

known : (c : ℕ) (cs : List ℕ) → is_low c ≡ false → is_unknown Listing (c ∷ cs) ≡ false
known c cs low = grind (arith, nat_tests, or-none, low, no-command)

low-said : (b : ℕ) (bs cs : List ℕ) → is_low b ≡ false → chars (b ∷ bs) ≡ cs
    → text_said Listing cs ≡ word_said Listing cs ∷ []
    → (listed_said Listing (b ∷ bs) ≡ word_said Listing cs ∷ []) × (list_after Listing (b ∷ bs) ≡ Listing)
low-said b bs cs low are said =
    grind (arith, nat_tests, or-none, low, comment-skipped, command-none)

-- a line says this alone in a section, and the next is read in it
abbrev pub IsRead : Section → List ℕ → Said → Type 0
IsRead section line said = (line_said section line ≡ said ∷ []) × (section_after section line ≡ section)

-- ---- words in groups of TeX

unsigned : (c : ℕ) → is_sign c ≡ false
    → (is_whitespace c ≡ false) × ((c == 0x7D) ≡ false) × ((c == 0x25) ≡ false) × ((c == 0x5C) ≡ false)
unsigned c none = grind (arith, nat_tests, or-none)

prefix-all : (p : ℕ → Bool) (cs : List ℕ) → All (λ c. p c ≡ true) cs → prefix_len p cs ≡ length cs
prefix-all p [] are = refl
prefix-all p (c ∷ cs) are = rw (All-head (λ d. p d ≡ true) c cs are)
    (omega (arith, prefix-all p cs (All-tail (λ d. p d ≡ true) c cs are)))

lacks-before : (d : ℕ) (cs : List ℕ) → All (λ c. (c == d) ≡ false) cs → before d cs ≡ length cs
lacks-before d cs are = prefix-all (λ c. not (c == d)) cs
    (All-weaker (λ c. (c == d) ≡ false) (λ c. not (c == d) ≡ true) (λ c is. rw is refl) cs are)

all-shown : (P : ℕ → Type 0) → ((c : ℕ) → is_sign c ≡ false → P c) → (cs : List ℕ) → AreShown cs → All P cs
all-shown P each cs are = All-weaker (λ c. is_shown c ≡ true) P (λ c is. each c (shown-parts c is).2) cs are

bare-line : (cs : List ℕ) → AreShown cs → before_comment cs ≡ cs
bare-line cs are = ap (λ n. take n cs) (lacks-before 0x25 cs
    (all-shown (λ c. (c == 0x25) ≡ false) (λ c none. (unsigned c none).2) cs are))
    ∙ take_all (length cs) cs (omega arith)

unclosed : (cs : List ℕ) → AreShown cs → is_closed cs ≡ false
unclosed cs are = rw (
  lacks-before 0x7D cs
      (all-shown (λ c. (c == 0x7D) ≡ false) (λ c none. (unsigned c none).1) cs are),
  le-ltb (length cs) (length cs) (omega arith),
) refl

one-word : (cs : List ℕ) → AreShown cs → slice_split is_whitespace cs ≡ cs ∷ []
one-word cs are = slice_split_none is_whitespace cs
    (all-shown (λ c. is_whitespace c ≡ false) (λ c none. (unsigned c none).0) cs are)

unlisted : (section : Section) → is_group section ≡ true → is_list section ≡ false
unlisted Patterns group = refl
unlisted Exceptions group = refl
unlisted _ group = absurd (false≢true group)

tex-said : (section : Section) (cs : List ℕ) → is_group section ≡ true → AreShown cs → 0 < length cs
    → (tex_said section cs ≡ word_said section cs ∷ []) × (tex_after section cs ≡ section)
tex-said section [] group are some = absurd (omega (arith, some))
tex-said section (c ∷ cs) group are some = rw (
  group,
  group,
  unclosed (c ∷ cs) are,
  one-word (c ∷ cs) are,
  unlisted section group,
) (refl, refl)

pub patterns-word : (cs : List ℕ) → AreShown cs → 0 < length cs
    → IsRead Patterns (encode_utf8_all cs) (word_said Patterns cs)
patterns-word cs are some =
    grind (arith, chars-ink cs (word-ink cs are), bare-line cs are, tex-said Patterns cs refl are some)

pub exceptions-word : (cs : List ℕ) → AreShown cs → 0 < length cs
    → IsRead Exceptions (encode_utf8_all cs) (word_said Exceptions cs)
exceptions-word cs are some =
    grind (arith, chars-ink cs (word-ink cs are), bare-line cs are, tex-said Exceptions cs refl are some)

-- ---- words in lines of lists

-- the first letter and the first byte of a word
pub record IsBegun (cs : List ℕ) : Type 0 where
  pub letter : ℕ
  pub letters : List ℕ
  pub are : cs ≡ letter ∷ letters
  pub low_letter : is_low letter ≡ false
  pub first : ℕ
  pub rest : List ℕ
  pub is : encode_utf8_all cs ≡ first ∷ rest
  pub low : is_low first ≡ false

one-said : (cs : List ℕ) → AreShown cs → IsBegun cs → text_said Listing cs ≡ word_said Listing cs ∷ []
one-said cs shown begun = subst (λ l. text_said Listing l ≡ word_said Listing l ∷ []) (sym begun.are) (rw (
  one-word (begun.letter ∷ begun.letters) (subst AreShown begun.are shown),
  known begun.letter begun.letters begun.low_letter,
) refl)

-- what a line of a list says that is a word, and where the next is read
pub list-word : (cs : List ℕ) → AreShown cs → IsBegun cs → IsRead Listing (encode_utf8_all cs) (word_said Listing cs)
list-word cs shown begun =
    let ink : AreInk cs = word-ink cs shown in
    let said = low-said begun.first begun.rest cs begun.low (ap chars (sym begun.is) ∙ chars-ink cs ink)
    (one-said cs shown begun) in
    let line = trim-ink cs ink ∙ begun.is in
    (ap (listed_said Listing) line ∙ said.0, ap (list_after Listing) line ∙ said.1)

high-low : (b : ℕ) → 128 ≤ b → is_low b ≡ false
high-low b high = grind (arith, nat_tests, le-leb-false, ne_eqb)
  where
    le-leb-false : (c : ℕ) → 128 ≤ c → is_ascii_uppercase c ≡ false
    le-leb-false c le = grind (arith, nat_tests)

low-byte : (c : ℕ) (cs bytes : List ℕ) → encode_utf8_all (c ∷ cs) ≡ bytes → is_low c ≡ false → IsBegun (c ∷ cs)
low-byte c cs [] is low = absurd (omega (arith, ap length is, length-le-encodes (c ∷ cs)))
low-byte c cs (b ∷ bs) is low = record {
  letter = c;
  letters = cs;
  are = refl;
  low_letter = low;
  first = b;
  rest = bs;
  is = is;
  low = by (cases_lt b 128);
}
  where
    by : (b < 128) ⊎ (128 ≤ b) → is_low b ≡ false
    by (inl lt) = ap is_low (sym (char_from_byte (b ∷ bs) (encode_utf8_all cs) c (sym is) lt (omega arith))) ∙ low
    by (inr high) = high-low b high

-- no capital letter of ASCII stands for itself
upper-changed : (c : ℕ) → folded c ≡ c → is_ascii_uppercase c ≡ false
unfolding to_lowercase by_runs by_strings lowercase_runs lowercase_strings
upper-changed c same = elim (cases_Bool (is_ascii_uppercase c)) [
  | inl upper ↦ let range = and_parts (nat_le 65 c) (nat_le c 90) upper in
      absurd (eqb-false (folded c) c (not-true (folded c == c) (each-of (λ d. not (folded d == d)) 65 26 c refl
      (omega (arith, leb-true 65 c range.0)) (omega (arith, leb-true c 90 range.1)))) same)
  | inr other ↦ other
]

bare-low : (c : ℕ) → Bare c → is_low c ≡ false
bare-low c b = grind (arith, nat_tests, unsigned, upper-changed)

digit-low : (level : ℕ) → nat_lt level 10 ≡ true → is_low (level + 0x30) ≡ false
digit-low level lt = grind (arith, nat_tests, not-true, each-of, ltb-true)

pub hyphened-begun : (places letters : List ℕ) → All (λ c. is_bare c ≡ true) letters
    → AreInnerPlaces (length letters) places → 0 < length places → IsBegun (hyphened 0 places letters)
hyphened-begun [] letters are inner some = absurd (omega (arith, some))
hyphened-begun (place ∷ places) [] are inner some = absurd (omega (arith, inner.0.1))
hyphened-begun (place ∷ places) (c ∷ cs) are inner some = rw (ne_eqb place 0 (omega (arith, inner.0.0)))
    (low-byte c (hyphened 1 (place ∷ places) cs) (encode_utf8_all (c ∷ hyphened 1 (place ∷ places) cs)) refl
    (bare-low c (bare c (All-head (λ d. is_bare d ≡ true) c cs are))))

pub level-begun : (levels letters : List ℕ) → All (λ level. nat_lt level 10 ≡ true) levels → 0 < length levels
    → IsBegun (pattern_line levels letters)
level-begun [] letters digits some = absurd (omega (arith, some))
level-begun (level ∷ levels) [] digits some = low-byte (level + 0x30) [] (encode_utf8_all ((level + 0x30) ∷ [])) refl
    (digit-low level (All-head (λ n. nat_lt n 10 ≡ true) level levels digits))
level-begun (level ∷ levels) (c ∷ cs) digits some = low-byte (level + 0x30) (c ∷ pattern_line levels cs)
    (encode_utf8_all ((level + 0x30) ∷ c ∷ pattern_line levels cs)) refl
    (digit-low level (All-head (λ n. nat_lt n 10 ≡ true) level levels digits))
