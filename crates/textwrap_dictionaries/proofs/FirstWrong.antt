-- What is wrong with a line of a list, and the first line that is wrong.
use Rattle.std.{proofs.Common.chars, specs.Str.trim}
use Rattle.textwrap_dictionaries.proofs.Gaps.{exception-gap}
use Rattle.textwrap_dictionaries.specs.Entries.{Said, Pattern, Changed, Left, Right, CompoundLeft, CompoundRight}
use Rattle.textwrap_dictionaries.specs.Entries.{NextGroup, Nothing, Wrong, are_joints, begins, beside_said}
use Rattle.textwrap_dictionaries.specs.Entries.{command_said, exception_or_fault, exception_said, is_exception}
use Rattle.textwrap_dictionaries.specs.Entries.{hyphens_past, is_unknown, item_said, letters_between, changed_by}
use Rattle.textwrap_dictionaries.specs.Entries.{changed_said, changes_at, slashed_said, unslashed_said, has_sign}
use Rattle.textwrap_dictionaries.specs.Entries.{has_slash, number_or_fault, pattern_said, word_said}
use Rattle.textwrap_dictionaries.specs.Faults.{IsClean, IsFirstWrongItem, IsLong, IsOther, IsSlashed, IsWrong}
use Rattle.textwrap_dictionaries.specs.Faults.{IsWrongItem, IsWrongWord, LacksNumber, begins_word, has_gap}
use Rattle.textwrap_dictionaries.specs.{Faults.is_silent, Faults.listed_in, Parsing.words_between}
use Rattle.textwrap_dictionaries.specs.declared.{entries.Section.Section, errors.Fault.Fault}
use Rattle.textwrap_patterns.specs.Changes.{number_of, text_before, without_changes}
use Rattle.textwrap_patterns.specs.{Listed.PatternText, Listed.exception_text, Written.letters_written}
use Rattle.textwrap_patterns.specs.{Written.pattern_written, declared.changes.Region.Region}
use Rattle.textwrap_text.proofs.Common.{Option, None, Some, ◌||◌, ◌≢◌, ◌⊎◌, if◌then◌else◌, codes, is_some, nat_lt}
use Rattle.textwrap_text.proofs.Common.{not, Bool, List, ℕ, ap, cases_Bool, drop, false, false≢true, inl, inr}
use Rattle.textwrap_text.proofs.Common.{length, refl, subst, sym, true, ⊤, ◌++◌, ◌∙◌, ◌≡◌}
use Rattle.textwrap_text.proofs.Lists.Parts.{starts_with-rest}
use Rattle.textwrap_dictionaries.specs.declared.errors.Fault.TheVariants as fault

-- ---- what a line says is wrong where the line is

-- what a line says beside patterns and exceptions, or that it is made of these
abbrev pub IsJudged : Bool → List ℕ → Option Said → Type 0
IsJudged among line None = IsOther line
IsJudged among line (Some NextGroup) = begins (codes "NEXTLEVEL") line ≡ true
IsJudged among line (Some (Wrong fault)) = IsWrong among fault line
IsJudged among line (Some said) = ⊤

-- what a word says, and what it is then as an exception or a pattern
abbrev pub IsJudgedWord : Bool → List ℕ → Said → Type 0
IsJudgedWord exception cs NextGroup = ⊥
IsJudgedWord exception cs (Wrong fault) = IsWrongWord exception fault cs
IsJudgedWord exception cs _ = ⊤

by-length : (cs : List ℕ) (b : Bool) → IsClean cs → nat_lt 255 (length (letters_written cs)) ≡ b
    → IsJudgedWord false cs (if b then Wrong fault.TooLong else Pattern (pattern_written cs))
by-length cs true clean is = (refl, inl (clean, is))
by-length cs false clean is = tt

by-room : (cs : List ℕ) (b : Bool) (region : Region) → IsSlashed cs → changes_at cs ≡ Some region
    → nat_lt 255 (length (letters_written (text_before 0x2F cs))) ≡ b
    → IsJudgedWord false cs (if b then Wrong fault.TooLong
    else Changed (without_changes region (pattern_written (text_before 0x2F cs))))
by-room cs true region slashed some is =
    (refl, inr (slashed, λ none. false≢true (ap is_some (sym none ∙ some)), is))
by-room cs false region slashed some is = tt

by-change : (cs : List ℕ) (region : Option Region) → IsSlashed cs → changes_at cs ≡ region
    → IsJudgedWord false cs (changed_by region (pattern_written (text_before 0x2F cs)))
by-change cs None slashed is = (slashed, inr is)
by-change cs (Some region) slashed is =
    by-room cs (nat_lt 255 (length (letters_written (text_before 0x2F cs)))) region slashed is refl

-- what an exception is, or that its hyphens are wrong
abbrev exception_if : List ℕ → Bool → Said
exception_if cs b =
    exception_or_fault (if b then Some (exception_text (letters_between cs) (hyphens_past 0 cs)) else None)

by-gap : (cs : List ℕ) (b : Bool) → IsClean cs → has_gap cs ≡ b
    → IsJudgedWord true cs (exception_if cs (not b))
by-gap cs true clean is = (clean, refl, is)
by-gap cs false clean is = tt

said-by-gap : (cs : List ℕ) → exception_said cs ≡ exception_if cs (not (has_gap cs))
said-by-gap cs = ap (exception_if cs) (exception-gap cs)

by-slashed : (cs : List ℕ) (b : Bool) → IsSlashed cs
    → IsJudgedWord b cs (if b then Wrong fault.Replacement else changed_said cs)
by-slashed cs true slashed = (slashed, inl refl)
by-slashed cs false slashed = by-change cs (changes_at cs) slashed refl

by-clean : (cs : List ℕ) (b : Bool) → IsClean cs
    → IsJudgedWord b cs (if b then exception_said cs else pattern_said cs)
by-clean cs true clean = subst (IsJudgedWord true cs) (sym (said-by-gap cs)) (by-gap cs (has_gap cs) clean refl)
by-clean cs false clean = by-length cs (nat_lt 255 (length (letters_written cs))) clean refl

by-slash : (section : Section) (cs : List ℕ) (b : Bool) → has_sign cs ≡ false → has_slash cs ≡ b
    → IsJudgedWord (is_exception section cs) cs
    (if b then slashed_said section cs else unslashed_said section cs)
by-slash section cs true sign is = by-slashed cs (is_exception section cs) (sign, is)
by-slash section cs false sign is = by-clean cs (is_exception section cs) (sign, is)

by-sign : (section : Section) (cs : List ℕ) (b : Bool) → has_sign cs ≡ b
    → IsJudgedWord (is_exception section cs) cs (if b then Wrong fault.Sign
    else if has_slash cs then slashed_said section cs else unslashed_said section cs)
by-sign section cs true is = is
by-sign section cs false is = by-slash section cs (has_slash cs) is refl

pub word-judged : (section : Section) (cs : List ℕ)
    → IsJudgedWord (is_exception section cs) cs (word_said section cs)
word-judged section cs = by-sign section cs (has_sign cs) refl

-- a word between blanks, and what it says
abbrev pub IsJudgedItem : Section → List ℕ → Said → Type 0
IsJudgedItem section cs NextGroup = ⊥
IsJudgedItem section cs (Wrong fault) = IsWrongItem section fault cs
IsJudgedItem section cs _ = ⊤

known-judged : (section : Section) (cs : List ℕ) (said : Said) → is_unknown section cs ≡ false
    → IsJudgedWord (is_exception section cs) cs said → IsJudgedItem section cs said
known-judged section cs NextGroup known is = is
known-judged section cs (Wrong fault.Word) known is = absurd is
known-judged section cs (Wrong f) known is = (known, is)
known-judged section cs said known is = tt

by-known : (section : Section) (cs : List ℕ) (b : Bool) → is_unknown section cs ≡ b
    → IsJudgedItem section cs (if b then Wrong fault.Word else word_said section cs)
by-known section cs true is = is
by-known section cs false is = known-judged section cs (word_said section cs) is (word-judged section cs)

pub item-judged : (section : Section) (cs : List ℕ) → IsJudgedItem section cs (item_said section cs)
item-judged section cs = by-known section cs (is_unknown section cs) refl

-- a choice between what is said and the rest
choose : (among : Bool) (line : List ℕ) (b : Bool) (said : Said) (rest : Option Said)
    → (b ≡ true → IsJudged among line (Some said)) → (b ≡ false → IsJudged among line rest)
    → IsJudged among line (if b then Some said else rest)
choose among line true said rest taken left = taken refl
choose among line false said rest taken left = left refl

by-number : (among : Bool) (line : List ℕ) (n : Option ℕ) (said : ℕ → Said)
    → ((m : ℕ) → IsJudged among line (Some (said m))) → (n ≡ None → IsWrong among fault.Number line)
    → IsJudged among line (Some (number_or_fault said n))
by-number among line None said plain none = none refl
by-number among line (Some m) said plain none = plain m

lacking : (word line : List ℕ) → begins word line ≡ true → number_of (trim (drop (length word) line)) ≡ None
    → LacksNumber word line
lacking word line is none = (drop (length word) line, starts_with-rest word line is, none)

by-joints : (among : Bool) (line : List ℕ) (b : Bool) → (b ≡ false → IsWrong among fault.NoHyphen line)
    → IsJudged among line (Some (if b then Nothing else Wrong fault.NoHyphen))
by-joints among line true wrong = tt
by-joints among line false wrong = wrong refl

-- what a line says that begins with one of the last words of libhyphen
abbrev said_last : List ℕ → Option Said
said_last line = if begins (codes "NEXTLEVEL") line then Some NextGroup else None

abbrev said_fifth : List ℕ → Option Said
said_fifth line = if begins (codes "NOHYPHEN") line then Some (beside_said (chars (drop 8 line))) else said_last line

abbrev said_number : (ℕ → Said) → ℕ → List ℕ → Said
said_number said n line = number_or_fault said (number_of (trim (drop n line)))

abbrev said_fourth : List ℕ → Option Said
said_fourth line =
    if begins (codes "COMPOUNDRIGHTHYPHENMIN") line then Some (said_number CompoundRight 22 line) else said_fifth line

abbrev said_third : List ℕ → Option Said
said_third line =
    if begins (codes "COMPOUNDLEFTHYPHENMIN") line then Some (said_number CompoundLeft 21 line) else said_fourth line

abbrev said_second : List ℕ → Option Said
said_second line =
    if begins (codes "RIGHTHYPHENMIN") line then Some (said_number Right 14 line) else said_third line

or-from : (a b : Bool) → a ≡ false → b ≡ false → (a || b) ≡ false
or-from a b none neither = rw none neither

pub judged : (among : Bool) (line : List ℕ) → is_silent line ≡ false → IsJudged among line (command_said line)
judged among line silent =
    choose among line (begins (codes "LEFTHYPHENMIN") line) (said_number Left 13 line) (said_second line)
    (λ is. by-number among line (number_of (trim (drop 13 line))) Left (λ m. tt)
    (λ none. inl (lacking (codes "LEFTHYPHENMIN") line is none)))
    (λ first. choose among line (begins (codes "RIGHTHYPHENMIN") line) (said_number Right 14 line) (said_third line)
    (λ is. by-number among line (number_of (trim (drop 14 line))) Right (λ m. tt)
    (λ none. inr (inl (lacking (codes "RIGHTHYPHENMIN") line is none))))
    (λ second. choose among line (begins (codes "COMPOUNDLEFTHYPHENMIN") line) (said_number CompoundLeft 21 line)
    (said_fourth line)
    (λ is. by-number among line (number_of (trim (drop 21 line))) CompoundLeft (λ m. tt)
    (λ none. inr (inr (inl (lacking (codes "COMPOUNDLEFTHYPHENMIN") line is none)))))
    (λ third. choose among line (begins (codes "COMPOUNDRIGHTHYPHENMIN") line) (said_number CompoundRight 22 line)
    (said_fifth line)
    (λ is. by-number among line (number_of (trim (drop 22 line))) CompoundRight (λ m. tt)
    (λ none. inr (inr (inr (lacking (codes "COMPOUNDRIGHTHYPHENMIN") line is none)))))
    (λ fourth. choose among line (begins (codes "NOHYPHEN") line) (beside_said (chars (drop 8 line))) (said_last line)
    (λ is. by-joints among line (are_joints (chars (drop 8 line)))
    (λ none. (drop 8 line, starts_with-rest (codes "NOHYPHEN") line is, none)))
    (λ fifth. choose among line (begins (codes "NEXTLEVEL") line) NextGroup None (λ is. is)
    (λ last. (
      silent,
      or-from (begins (codes "LEFTHYPHENMIN") line) _ first
          (or-from (begins (codes "RIGHTHYPHENMIN") line) _ second
          (or-from (begins (codes "COMPOUNDLEFTHYPHENMIN") line) _ third
          (or-from (begins (codes "COMPOUNDRIGHTHYPHENMIN") line) _ fourth
          (or-from (begins (codes "NOHYPHEN") line) (begins (codes "NEXTLEVEL") line) fifth last)))),
    )))))))

-- ---- a line that is wrong says so

none-if : (b more : Bool) (said : Said) (rest : Option Said) → (b || more) ≡ false
    → (more ≡ false → rest ≡ None) → (if b then Some said else rest) ≡ None
none-if true more said rest is left = absurd (false≢true (sym is))
none-if false more said rest is left = left is

last-none : (b : Bool) → b ≡ false → (if b then Some NextGroup else None) ≡ None
last-none false is = refl
last-none true is = absurd (false≢true (sym is))

-- whether a line begins with one of the last words
abbrev begins_fifth : List ℕ → Bool
begins_fifth line = begins (codes "NOHYPHEN") line || begins (codes "NEXTLEVEL") line

abbrev begins_fourth : List ℕ → Bool
begins_fourth line = begins (codes "COMPOUNDRIGHTHYPHENMIN") line || begins_fifth line

abbrev begins_third : List ℕ → Bool
begins_third line = begins (codes "COMPOUNDLEFTHYPHENMIN") line || begins_fourth line

abbrev begins_second : List ℕ → Bool
begins_second line = begins (codes "RIGHTHYPHENMIN") line || begins_third line

pub command-none : (line : List ℕ) → begins_word line ≡ false → command_said line ≡ None
command-none line is =
    none-if (begins (codes "LEFTHYPHENMIN") line) (begins_second line) (said_number Left 13 line) (said_second line) is
    (λ second. none-if (begins (codes "RIGHTHYPHENMIN") line) (begins_third line) (said_number Right 14 line)
    (said_third line) second
    (λ third. none-if (begins (codes "COMPOUNDLEFTHYPHENMIN") line) (begins_fourth line)
    (said_number CompoundLeft 21 line) (said_fourth line) third
    (λ fourth. none-if (begins (codes "COMPOUNDRIGHTHYPHENMIN") line) (begins_fifth line)
    (said_number CompoundRight 22 line) (said_fifth line) fourth
    (λ fifth. none-if (begins (codes "NOHYPHEN") line) (begins (codes "NEXTLEVEL") line)
    (beside_said (chars (drop 8 line))) (said_last line) fifth (last-none (begins (codes "NEXTLEVEL") line))))))

-- what holds of each text that begins with a word holds of a line that does
pub of-word : (P : List ℕ → Type 0) (word line rest : List ℕ) → line ≡ word ++ rest → P (word ++ rest) → P line
of-word P word line rest is holds = subst P (sym is) holds

replacement-said : (section : Section) (cs : List ℕ) → (is_exception section cs ≡ true) ⊎ (changes_at cs ≡ None)
    → slashed_said section cs ≡ Wrong fault.Replacement
replacement-said section cs (inl exception) = rw exception refl
replacement-said section cs (inr none) = elim (cases_Bool (is_exception section cs)) [
  | inl is ↦ rw is refl
  | inr is ↦ rw (is, none) refl
]

room-said : (region : Option Region) (p : PatternText) → region ≢ None → nat_lt 255 (length p.letters) ≡ true
    → changed_by region p ≡ Wrong fault.TooLong
room-said None p some is = absurd (some refl)
room-said (Some region) p some is = rw is refl

long-said : (section : Section) (cs : List ℕ) → is_exception section cs ≡ false
    → (IsClean cs × IsLong cs) ⊎ (IsSlashed cs × (changes_at cs ≢ None) × IsLong (text_before 0x2F cs))
    → word_said section cs ≡ Wrong fault.TooLong
long-said section cs plain (inl is) = rw (is.0.0, is.0.1, plain, is.1) refl
long-said section cs plain (inr is) =
    rw (is.0.0, is.0.1, plain) (room-said (changes_at cs) (pattern_written (text_before 0x2F cs)) is.1 is.2)

pub word-wrong : (section : Section) (cs : List ℕ) (f : Fault)
    → IsWrongWord (is_exception section cs) f cs → word_said section cs ≡ Wrong f
word-wrong section cs fault.Replacement is = rw (is.0.0, is.0.1) (replacement-said section cs is.1)
word-wrong section cs fault.Sign is = rw is refl
word-wrong section cs fault.TooLong is = long-said section cs is.0 is.1
word-wrong section cs fault.Hyphens is = rw (is.0.0, is.0.1, is.1)
    (said-by-gap cs ∙ ap (λ b. exception_if cs (not b)) is.2)
word-wrong section cs _ is = absurd is

pub item-wrong : (section : Section) (cs : List ℕ) (f : Fault) → IsWrongItem section f cs
    → item_said section cs ≡ Wrong f
item-wrong section cs fault.Word is = rw is refl
item-wrong section cs f is = rw is.0 (word-wrong section cs f is.1)

-- it is not silent, and says this fault by itself or in its words
abbrev SaysFault : Bool → Fault → List ℕ → Type 0
SaysFault among f line = (is_silent line ≡ false) × ((command_said line ≡ Some (Wrong f))
    ⊎ ((command_said line ≡ None) × IsFirstWrongItem (listed_in among) f (words_between (chars line))))

pub wrong-says : (among : Bool) (f : Fault) (line : List ℕ) → IsWrong among f line → SaysFault among f line
wrong-says among fault.NoHyphen line (rest, is, none) =
    of-word (SaysFault among fault.NoHyphen) (codes "NOHYPHEN") line rest is (refl, inl (rw none refl))
wrong-says among fault.Number line (inl (rest, is, none)) =
    of-word (SaysFault among fault.Number) (codes "LEFTHYPHENMIN") line rest is (refl, inl (rw none refl))
wrong-says among fault.Number line (inr (inl (rest, is, none))) =
    of-word (SaysFault among fault.Number) (codes "RIGHTHYPHENMIN") line rest is (refl, inl (rw none refl))
wrong-says among fault.Number line (inr (inr (inl (rest, is, none)))) =
    of-word (SaysFault among fault.Number) (codes "COMPOUNDLEFTHYPHENMIN") line rest is (refl, inl (rw none refl))
wrong-says among fault.Number line (inr (inr (inr (rest, is, none)))) =
    of-word (SaysFault among fault.Number) (codes "COMPOUNDRIGHTHYPHENMIN") line rest is (refl, inl (rw none refl))
wrong-says among f line is = (is.0.0, inr (command-none line is.0.1, is.1))
