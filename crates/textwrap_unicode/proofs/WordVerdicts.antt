-- What the rules say behind letters and ideographs, over which a line is read all at once.
use Rattle.std.{proofs.lemmas.Str.encode_ascii, specs.Char.len_utf8}
use Rattle.textwrap_text.proofs.ClassNames.{Bool, List, arith, chars, drop, refl, true, zero, ◌&&◌}
use Rattle.textwrap_text.proofs.ClassNames.{IsIdeographAt, class_of, ideograph_places, if◌then◌else◌}
use Rattle.textwrap_text.proofs.ClassNames.{add-one, append-nil, append_assoc, cases_Bool, nat_tests}
use Rattle.textwrap_text.proofs.ClassNames.{encode, false, get_or, is_space, length, subst, unit_of}
use Rattle.textwrap_text.proofs.ClassNames.{suc, sym, ◌*◌, ◌++◌, ◌+◌, ◌<◌, ◌==◌, ◌||◌, ◌∙◌, ◌∷◌, ◌≤◌}
use Rattle.textwrap_text.proofs.{ClassLemmas.ascii_class, ClassLemmas.ascii_unit, Common.[]}
use Rattle.textwrap_text.specs.Ideographs.{IsCommonIdeograph, wide_ideograph}
use Rattle.textwrap_text.{proofs.Common.ap, proofs.Common.◌≡◌, specs.declared.classes.Unit.Unit}
use Rattle.textwrap_text.{proofs.Common.ℕ, specs.ClassSets.is_infix, specs.ClassSets.is_letter}
use Rattle.textwrap_text.proofs.Common.{add-zero, drop-drop, drop_more, length-encode, visible_in}
use Rattle.textwrap_text.proofs.{Common.eqb, Common.rules, Units.Reading.plain-step}
use Rattle.textwrap_text.specs.declared.escapes.State.{State, TheVariants.Text}
use Rattle.textwrap_unicode.proofs.Common.{Before, ByPairs, Numbers, and_words, cut_here, may_end}
use Rattle.textwrap_unicode.proofs.Common.{Prohibited, and, decide_by, is_any_hyphen, numbers_rule}
use Rattle.textwrap_unicode.proofs.CutLemmas.{IsCutting, IsCutting-step}
use Rattle.textwrap_unicode.specs.Pairs.{behind_classes}
use Rattle.textwrap_unicode.specs.WordStarts.{IsPlainLetter, is_behind_blank, is_behind_sign}
use Rattle.textwrap_unicode.specs.WordStarts.{IsWordByte, IsWordClass, plain_letter, word_starts}
use Rattle.textwrap_unicode.specs.declared.numbers.Numbers.TheVariants.{ByExpression}
use Rattle.unicode.specs.declared.properties.LineBreak.TheVariants.{Alphabetic, Ideographic}
use Rattle.unicode.specs.declared.properties.LineBreak.{LineBreak}

-- ---- letters behind a letter, which are passed all at once

-- nothing changes from the one place to the other
pub record IsSame (at : ℕ) (bytes : List ℕ) (n m : ℕ) : Type 0 where
  pub blank : is_behind_blank bytes m ≡ is_behind_blank bytes n
  pub sign : is_behind_sign bytes m ≡ is_behind_sign bytes n
  pub starts : word_starts at bytes m ≡ word_starts at bytes n

one-letter : (at : ℕ) (bytes : List ℕ) (n : ℕ) → IsPlainLetter (get_or bytes n 0)
    → is_behind_blank bytes n ≡ false → is_behind_sign bytes n ≡ false → IsSame at bytes n (suc n)
one-letter at bytes n letter blank sign = grind (arith, append-nil)

pub letters-same : (at : ℕ) (bytes : List ℕ) (n k : ℕ)
    → (0 < k → (is_behind_blank bytes n ≡ false) × (is_behind_sign bytes n ≡ false))
    → ((j : ℕ) → j < k → IsPlainLetter (get_or bytes (n + j) 0)) → IsSame at bytes n (n + k)
letters-same at bytes n zero plain letters = search (rules, arith, add-zero)
letters-same at bytes n (suc k) plain letters =
    let (blank, sign) = plain (omega arith) in
    let h = letters-same at bytes n k (λ _. (blank, sign)) (λ j below. letters j (omega (arith, below))) in
    let one = one-letter at bytes (n + k) (letters k (omega arith)) (h.blank ∙ blank) (h.sign ∙ sign) in
    let place : suc (n + k) ≡ n + suc k = omega arith in
    subst (IsSame at bytes n) place (grind (arith, one, h))

-- ---- the units

abbrev pub unit_with : LineBreak → Unit
unit_with class = record { class = class; is_wide = false; is_unassigned_pictograph = false }

pub ascii-is : (c : ℕ) → c < 128 → unit_of c ≡ unit_with (class_of c)
ascii-is c below = sym (ascii_unit c below) ∙ ap (λ u. unit_with u.class) (ascii_unit c below)

abbrev is_of_word : LineBreak → Bool
is_of_word class = is_letter class || is_space class || is_infix class

-- neither a hyphen nor ESC is of such a class
not-same : (c d : ℕ) → is_of_word (class_of c) ≡ true → is_of_word (class_of d) ≡ false
    → (c == d) ≡ false
not-same c d word other = grind (arith, nat_tests)

-- ---- letters of a word

-- a letter stands there, and nothing else that a rule asks for
abbrev pub in_word : Before
in_word = behind_classes Alphabetic Alphabetic

-- a letter more changes nothing
pub letter-step : (numbers : Numbers) (back : List ℕ) (before : Before) (unit : Unit)
    → before ≡ in_word → unit ≡ plain_letter
    → (decide_by (numbers_rule numbers back) before unit ≡ Prohibited) × (and before unit ≡ before)
letter-step ByPairs back before unit is letter = rw (is, letter) (refl, refl)
letter-step ByExpression back before unit is letter = rw (is, letter) (refl, refl)

-- ---- what the rules say

-- behind a letter of a word and what follows it
abbrev pub behind : Bool → Bool → Before
behind = and_words in_word

module _ (numbers : Numbers) (back : List ℕ) where
  abbrev pub ends : Bool → Bool → Unit → Bool
  ends blank sign unit = may_end (decide_by (numbers_rule numbers back) (behind blank sign) unit)

-- the same of a character, by its class
abbrev pub IsSaid : Numbers → List ℕ → Bool → Bool → LineBreak → Type 0
IsSaid numbers back blank sign class =
    (ends numbers back blank sign (unit_with class) ≡ blank && is_letter class)
    × (and (behind blank sign) (unit_with class)
    ≡ behind (is_space class) (if is_space class then sign else is_infix class))

pub said : (numbers : Numbers) (back : List ℕ) (blank sign : Bool) (class : LineBreak)
    → IsWordClass class → IsSaid numbers back blank sign class
said ByPairs back blank sign class is = grind (arith, cases_Bool)
said ByExpression back blank sign class is = grind (arith, cases_Bool)

of-word : (class : LineBreak) → IsWordClass class → is_of_word class ≡ true
of-word class is = grind arith

pub no-escape : (c : ℕ) → IsWordByte c → eqb c 27 ≡ false
no-escape c word = grind (arith, not-same, of-word, ascii_class, nat_tests)

pub no-hyphen : (c : ℕ) → IsWordByte c → is_any_hyphen c ≡ false
no-hyphen c word = grind (arith, not-same, of-word, ascii_class, nat_tests)

-- ---- letters, blanks and signs behind a letter of a word, over which a line is read all at
-- once

module _ (numbers : Numbers) (line : List ℕ) (at : ℕ) (rest : List ℕ) where
  -- the reader past so many of them
  abbrev pub IsPast : ℕ → List ℕ → Type 0
  IsPast n cuts = IsCutting numbers line (at + n) (drop n rest) Text
      (behind (is_behind_blank rest n) (is_behind_sign rest n)) (at + n) false cuts

  past-one : (n : ℕ) (cuts : List ℕ) → IsPast n cuts → n < length rest → IsWordByte (get_or rest n 0)
      → IsPast (suc n) (cuts
      ++ (if is_behind_blank rest n && is_letter (class_of (get_or rest n 0)) then (at + n) ∷ [] else []))
  past-one n cuts h inside word =
      let c = get_or rest n 0 in
      let after = drop (suc n) rest in
      let blank = is_behind_blank rest n in
      let sign = is_behind_sign rest n in
      let back = visible_in Text (chars after) in
      let (ends_is, and_is) = said numbers back blank sign (class_of c) word.class in
      let unit = ascii-is c word.ascii in
      let one : encode c ≡ c ∷ [] = encode_ascii c word.ascii in
      let is : drop n rest ≡ encode c ++ after = rw (one, ← add-one n)
      (drop_more rest n 0 inside) in
      let place : at + suc n ≡ at + n + length (encode c) = omega (arith, ap length one) in
      IsCutting-step _ _ _ _ _ _ _ _ _ c after (Text, true) h is (plain-step c (no-escape c word))
      _ _ _ _ _ place (sym (ap (and (behind blank sign)) unit ∙ and_is)) place (sym
      (no-hyphen c word))
      (ap (λ b. cuts ++ cut_here b (at + n)) (sym (ap (ends numbers back blank sign) unit ∙ ends_is)))

  past-words : (cuts : List ℕ) → IsCutting numbers line at rest Text in_word at false cuts
      → (n : ℕ) → n ≤ length rest → ((k : ℕ) → k < n → IsWordByte (get_or rest k 0))
      → IsPast n (cuts ++ word_starts at rest n)
  past-words cuts start zero within words = rw (append-nil cuts, add-zero at) start
  past-words cuts start (suc n) within words =
      let h = past-words cuts start n (omega (arith, within)) (λ k below. words k (omega (arith, below))) in
      subst (IsPast (suc n)) (append_assoc cuts (word_starts at rest n) _)
      (past-one n _ h (omega (arith, within)) (words n (omega arith)))

  -- the same of what the code has passed
  pub words-passed : (n : ℕ) (state : State) (before after : Before) (end : ℕ)
      (hyphen blank sign : Bool) (cuts found : List ℕ)
      → IsCutting numbers line at (drop at line) state before end hyphen cuts → state ≡ Text
      → before ≡ in_word → end ≡ at → hyphen ≡ false → rest ≡ drop at line
      → n ≤ length rest → ((k : ℕ) → k < n → IsWordByte (get_or rest k 0))
      → found ≡ cuts ++ word_starts at rest n → blank ≡ is_behind_blank rest n
      → sign ≡ is_behind_sign rest n → after ≡ and_words before blank sign
      → IsCutting numbers line (at + n) (drop (at + n) line) state after (at + n) hyphen found
  words-passed n state before after end hyphen blank sign cuts found h text first same none is
      within words found_is blank_is sign_is after_is =
      let start = rw (text, first, same, none, ← is) at h in
      rw (text, none, found_is, after_is, first, blank_is, sign_is, ← drop-drop n at line, ← is)
      (past-words cuts start n within words)

-- ---- the characters

pub three-bytes : (c : ℕ) → IsCommonIdeograph c → len_utf8 c ≡ 3
three-bytes c is = grind (arith, nat_tests, is.from, is.from, is.to)

ideograph-no-escape : (c : ℕ) → IsCommonIdeograph c → eqb c 27 ≡ false
ideograph-no-escape c is = grind (arith, nat_tests, is.from)

ideograph-no-hyphen : (c : ℕ) → IsCommonIdeograph c → is_any_hyphen c ≡ false
ideograph-no-hyphen c is = grind (arith, nat_tests, is.from, is.from)

-- ---- what the rules say

-- one stands there, and nothing else that a rule asks for
abbrev pub behind_ideograph : Before
behind_ideograph = record (behind_classes Ideographic Ideographic) { is_wide = true }

-- a line may end before one more, which changes nothing
ideograph-verdict : (numbers : Numbers) (back : List ℕ)
    → (may_end (decide_by (numbers_rule numbers back) behind_ideograph wide_ideograph) ≡ true)
    × (and behind_ideograph wide_ideograph ≡ behind_ideograph)
ideograph-verdict ByPairs back = (refl, refl)
ideograph-verdict ByExpression back = (refl, refl)

-- ---- the reader

module _ (numbers : Numbers) (line : List ℕ) (at : ℕ) (rest : List ℕ) where
  -- the reader past so many of them
  abbrev pub IsPastIdeographs : ℕ → List ℕ → Type 0
  IsPastIdeographs n cuts = IsCutting numbers line (at + 3 * n) (drop (3 * n) rest) Text
      behind_ideograph (at + 3 * n) false cuts

  past-ideograph : (n : ℕ) (cuts : List ℕ) → IsPastIdeographs n cuts → IsIdeographAt rest (3 * n)
      → IsPastIdeographs (suc n) (cuts ++ (at + 3 * n) ∷ [])
  past-ideograph n cuts h here =
      let c = here.character in
      let after = drop (3 * n + 3) rest in
      let (ends_is, and_is) = ideograph-verdict numbers (visible_in Text (chars after)) in
      let unit = here.common.unit in
      let three : length (encode c) ≡ 3 = length-encode c ∙ three-bytes c here.common in
      let next : 3 * suc n ≡ 3 * n + 3 = omega arith in
      let place : at + 3 * suc n ≡ at + 3 * n + length (encode c) = omega (arith, three) in
      subst (λ k. IsCutting numbers line (at + 3 * suc n) (drop k rest) Text behind_ideograph
      (at + 3 * suc n) false (cuts ++ (at + 3 * n) ∷ [])) (sym next)
      (IsCutting-step _ _ _ _ _ _ _ _ _ c after (Text, true) h here.stands
      (plain-step c (ideograph-no-escape c here.common)) _ _ _ _ _ place
      (sym (ap (and behind_ideograph) unit ∙ and_is)) place (sym (ideograph-no-hyphen c here.common))
      (ap (λ b. cuts ++ cut_here b (at + 3 * n))
      (sym (ap (λ u. may_end (decide_by (numbers_rule numbers (visible_in Text (chars after)))
      behind_ideograph u)) unit ∙ ends_is))))

  past-ideographs : (cuts : List ℕ) → IsCutting numbers line at rest Text behind_ideograph at false cuts
      → (n : ℕ) → ((k : ℕ) → k < n → IsIdeographAt rest (3 * k))
      → IsPastIdeographs n (cuts ++ ideograph_places at n)
  past-ideographs cuts start zero ideographs = rw (append-nil cuts, add-zero at) start
  past-ideographs cuts start (suc n) ideographs =
      let h = past-ideographs cuts start n (λ k below. ideographs k (omega (arith, below))) in
      subst (IsPastIdeographs (suc n)) (append_assoc cuts (ideograph_places at n) _)
      (past-ideograph n _ h (ideographs n (omega arith)))

  pub ideographs-passed : (n : ℕ) (state : State) (before : Before) (end : ℕ) (hyphen : Bool)
      (cuts found : List ℕ) → IsCutting numbers line at (drop at line) state before end hyphen cuts
      → state ≡ Text → before ≡ behind_ideograph → end ≡ at → hyphen ≡ false → rest ≡ drop at line
      → ((k : ℕ) → k < n → IsIdeographAt rest (3 * k)) → found ≡ cuts ++ ideograph_places at n
      → IsCutting numbers line (at + 3 * n) (drop (at + 3 * n) line) state before (at + 3 * n)
      hyphen found
  ideographs-passed n state before end hyphen cuts found h text first same none is ideographs
      found_is =
      let start = rw (text, first, same, none, ← is) at h in
      rw (text, none, found_is, first, sym (drop-drop (3 * n) at line), ← is)
      (past-ideographs cuts start n ideographs)
