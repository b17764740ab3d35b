-- The first line of a list that is wrong.
use Rattle.std.{proofs.Common.chars, specs.Option.option_or, specs.Str.trim}
use Rattle.textwrap_dictionaries.proofs.FirstWords.{IsRight, IsStep, step-as, words-are}
use Rattle.textwrap_dictionaries.proofs.FirstWrong.{IsJudged, command-none, judged, of-word, wrong-says}
use Rattle.textwrap_dictionaries.proofs.Skipped.{comment-skipped, first-step, list-step}
use Rattle.textwrap_dictionaries.specs.Entries.{Said, NextGroup, Right, Wrong, begins, command_said, whole_said}
use Rattle.textwrap_dictionaries.specs.Faults.{IsFirstWrong, IsFirstWrongItem, IsOther, IsWrong, IsWrongLine}
use Rattle.textwrap_dictionaries.specs.Faults.{are_among, begins_word, groups_in, is_of_line, listed_in}
use Rattle.textwrap_dictionaries.specs.Parsing.{Outcome, and_then, ended, end_fault, is_skipped, is_tex}
use Rattle.textwrap_dictionaries.specs.Parsing.{listed_said, no_patterns, parsed, said_or, text_said, unmarked}
use Rattle.textwrap_dictionaries.specs.Parsing.{with_all, with_lines, words_between}
use Rattle.textwrap_dictionaries.specs.declared.entries.Section.{Section, TheVariants.Start}
use Rattle.textwrap_dictionaries.specs.declared.errors.{Fault.Fault, ParseError.TheVariants.Line}
use Rattle.textwrap_patterns.specs.{Charsets.names_charset, Charsets.plain_name, Listed.Listed}
use Rattle.textwrap_text.proofs.Common.{Option, None, Some, Ok, Err, ◌||◌, if◌then◌else◌, codes, is_some, ◌↔◌}
use Rattle.textwrap_text.proofs.Common.{lines, Bool, List, ℕ, [], ap, arith, cases_Bool, drop, false, false≢true}
use Rattle.textwrap_text.proofs.Common.{filter, inl, inr, length, refl, subst, suc, sym, true, ◌++◌, ◌∙◌, ◌∷◌}
use Rattle.textwrap_text.proofs.{Common.◌≡◌, Common.◌⊎◌, Common.◌≤◌, Lists.Parts.starts_with-rest}
use Rattle.textwrap_dictionaries.specs.declared.errors.Fault.TheVariants as fault

-- ---- errors

abbrev option_fault : Option Said → Fault
option_fault (Some (Wrong f)) = f
option_fault _ = fault.Empty

abbrev pub is_told : Outcome → Bool
is_told (Ok h) = false
is_told (Err error) = true

-- ---- one line

-- no third group begins in these lines
abbrev Room : Listed → List (List ℕ) → Type 0
Room h ls = (groups_in ls ≡ 0) ⊎ ((length h.joints ≡ 0) × (groups_in ls ≤ 1))

abbrev IsLine : ℕ → List Said → Listed → List (List ℕ) → (Fault → Type 0) → Type 0
IsLine m saids h ls W = IsStep (λ k. Room k ls) m saids h W

module _ (m n : ℕ) (f : Fault) (saids : List Said) (h : Listed) (P : Listed → Type 0) (W : Fault → Type 0)
    (Later : Type 0) (next : Listed → Outcome)
    (rest : (k : Listed) → P k → (next k ≡ Err (Line n f)) ↔ Later) where
  pub line-to : IsStep P m saids h W → and_then (with_all m saids h) next ≡ Err (Line n f)
      → ((n ≡ m) × W f) ⊎ (((g : Fault) → ¬ W g) × Later)
  line-to (inl (g, is, wrong, one)) told = grind arith
  line-to (inr (k, is, room, none)) told = grind arith

  pub line-from : IsStep P m saids h W → ((n ≡ m) × W f) ⊎ (((g : Fault) → ¬ W g) × Later)
      → and_then (with_all m saids h) next ≡ Err (Line n f)
  line-from (inl (g, is, wrong, one)) (inl (here, own)) = grind arith
  line-from (inl (g, is, wrong, one)) (inr (none, later)) = absurd (none g wrong)
  line-from (inr (k, is, room, none)) (inl (here, own)) = absurd (none f own)
  line-from (inr (k, is, room, none)) (inr (nothing, later)) = grind arith

counted : (t : List ℕ → Bool) (line : List ℕ) (ls : List (List ℕ)) (b : Bool) → t line ≡ b
    → length (filter t (line ∷ ls)) ≡ (if b then suc (length (filter t ls)) else length (filter t ls))
counted t line ls true is = rw is refl
counted t line ls false is = rw is refl

abbrev is_group_line : List ℕ → Bool
is_group_line line = begins (codes "NEXTLEVEL") (trim line)

groups-more : (line : List ℕ) (ls : List (List ℕ)) → groups_in ls ≤ groups_in (line ∷ ls)
groups-more line ls = grind (arith, counted)

room-kept : (h k : Listed) (line : List ℕ) (ls : List (List ℕ)) → length k.joints ≡ length h.joints
    → Room h (line ∷ ls) → Room k ls
room-kept h k line ls same (inl none) = inl (omega (arith, none, groups-more line ls))
room-kept h k line ls same (inr (joints, few)) = inr (same ∙ joints, omega (arith, few, groups-more line ls))

unright : (among : Bool) (line : List ℕ) (said : Said) → command_said line ≡ Some said → IsRight said → (g : Fault)
    → IsWrong among g line → ⊥
unright among line said is right g wrong = elim (wrong-says among g line wrong).1 [
  | inl told ↦ grind (arith)
  | inr words ↦ absurd (false≢true (ap is_some (sym words.0 ∙ is)))
]

group-is : (among : Bool) (m : ℕ) (line : List ℕ) (h : Listed) (ls : List (List ℕ)) → is_group_line line ≡ true
    → command_said (trim line) ≡ Some NextGroup → Room h (line ∷ ls)
    → IsLine m (NextGroup ∷ []) h ls (λ f. IsWrong among f (trim line))
group-is among m line h ls group is (inl none) = grind (arith, counted)
group-is among m line h ls group is (inr (joints, few)) = inr (
  record h { joints = h.patterns; patterns = [] },
  rw joints refl,
  inl (omega (arith, few, counted is_group_line line ls true group)),
  unright among (trim line) NextGroup is tt,
)

goes-on : (among : Bool) (m : ℕ) (line : List ℕ) (h k : Listed) (ls : List (List ℕ)) (said : Said)
    → with_all m (said ∷ []) h ≡ Ok k → length k.joints ≡ length h.joints → IsRight said
    → command_said (trim line) ≡ Some said → Room h (line ∷ ls)
    → IsLine m (said ∷ []) h ls (λ f. IsWrong among f (trim line))
goes-on among m line h k ls said told same right is room =
    inr (k, told, room-kept h k line ls same room, unright among (trim line) said is right)

-- no word of a line is wrong in a way in which a word of libhyphen is
unbeside : (section : Section) (words : List (List ℕ)) → IsFirstWrongItem section fault.NoHyphen words → ⊥
unbeside section [] wrong = wrong
unbeside section (word ∷ words) (inl here) = here.1
unbeside section (word ∷ words) (inr (before, later)) = unbeside section words later

unnumbered : (section : Section) (words : List (List ℕ)) → IsFirstWrongItem section fault.Number words → ⊥
unnumbered section [] wrong = wrong
unnumbered section (word ∷ words) (inl here) = here.1
unnumbered section (word ∷ words) (inr (before, later)) = unnumbered section words later

words-to : (among : Bool) (line : List ℕ) → IsOther line → (f : Fault)
    → IsFirstWrongItem (listed_in among) f (words_between (chars line)) → IsWrong among f line
words-to among line other fault.NoHyphen wrong = absurd (unbeside (listed_in among) (words_between (chars line)) wrong)
words-to among line other fault.Number wrong = absurd (unnumbered (listed_in among) (words_between (chars line)) wrong)
words-to among line other f wrong = (other, wrong)

words-from : (among : Bool) (line : List ℕ) → command_said line ≡ None → (f : Fault) → IsWrong among f line
    → IsFirstWrongItem (listed_in among) f (words_between (chars line))
words-from among line none f wrong = elim (wrong-says among f line wrong).1 [
  | inl told ↦ absurd (false≢true (ap is_some (sym none ∙ told)))
  | inr words ↦ words.1
]

said-is : (among : Bool) (m : ℕ) (line : List ℕ) (h : Listed) (ls : List (List ℕ)) (whole : Option Said)
    → IsJudged among (trim line) whole → command_said (trim line) ≡ whole → Room h (line ∷ ls)
    → IsLine m (said_or (text_said (listed_in among) (chars (trim line))) whole) h ls (λ f. IsWrong among f (trim line))
said-is among m line h ls (Some NextGroup) judge is room = group-is among m line h ls judge is room
said-is among m line h ls (Some (Wrong f)) judge is room = inl (f, refl, judge, only)
  where
    only : (g : Fault) → IsWrong among g (trim line) → g ≡ f
    only g wrong = elim (wrong-says among g (trim line) wrong).1 [
      | inl told ↦ ap option_fault (sym told ∙ is)
      | inr words ↦ absurd (false≢true (ap is_some (sym words.0 ∙ is)))
    ]
said-is among m line h ls None judge is room = step-as (λ k. Room k ls) m (text_said (listed_in among) (chars (trim line)))
    h (λ f. IsFirstWrongItem (listed_in among) f (words_between (chars (trim line)))) (λ f. IsWrong among f (trim line))
    (words-to among (trim line) judge) (words-from among (trim line) is)
    (words-are (λ k. Room k ls) (λ k j same. stays k j same) (listed_in among) m (words_between (chars (trim line))) h
    (room-kept h h line ls refl room))
  where
    stays : (k j : Listed) → length j.joints ≡ length k.joints → Room k ls → Room j ls
    stays k j same (inl none) = inl none
    stays k j same (inr (joints, few)) = inr (same ∙ joints, few)
said-is among m line h ls (Some said) judge is room = goes-on among m line h _ ls said refl refl tt is room

unshown : (among : Bool) (line : List ℕ) → is_skipped line ≡ true → (g : Fault) → IsWrong among g line → ⊥
unshown among line skipped g wrong =
    false≢true (sym (wrong-says among g line wrong).0 ∙ comment-skipped line ∙ skipped)

-- what a line says beside patterns and exceptions behind the first
or-none : (o : Option Said) → option_or o None ≡ o
or-none None = refl
or-none (Some said) = refl

behind-first : (among : Bool) (line : List ℕ) → whole_said (listed_in among) line ≡ command_said line
behind-first true line = or-none (command_said line)
behind-first false line = or-none (command_said line)

-- the words of a line of which this is the rest
abbrev SaysAll : Bool → List ℕ → Option Said → List Said
SaysAll among line whole = said_or (text_said (listed_in among) (chars (trim line))) whole

known-is : (among : Bool) (m : ℕ) (line : List ℕ) (h : Listed) (ls : List (List ℕ)) → is_skipped (trim line) ≡ false
    → Room h (line ∷ ls)
    → IsLine m (SaysAll among line (command_said (trim line))) h ls (λ f. IsWrong among f (trim line))
known-is among m line h ls is room = said-is among m line h ls (command_said (trim line))
    (judged among (trim line) (comment-skipped (trim line) ∙ is)) refl room

line-by : (among : Bool) (m : ℕ) (line : List ℕ) (h : Listed) (ls : List (List ℕ)) (b : Bool)
    → is_skipped (trim line) ≡ b → Room h (line ∷ ls)
    → IsLine m (if b then [] else SaysAll among line (whole_said (listed_in among) (trim line))) h ls
    (λ f. IsWrong among f (trim line))
line-by among m line h ls true is room =
    inr (h, refl, room-kept h h line ls refl room, unshown among (trim line) is)
line-by among m line h ls false is room =
    subst (λ whole. IsLine m (SaysAll among line whole) h ls (λ f. IsWrong among f (trim line)))
    (sym (behind-first among (trim line))) (known-is among m line h ls is room)

line-of : (among : Bool) (m : ℕ) (line : List ℕ) (h : Listed) (ls : List (List ℕ)) → Room h (line ∷ ls)
    → IsLine m (listed_said (listed_in among) (trim line)) h ls (λ f. IsWrong among f (trim line))
line-of among m line h ls room = line-by among m line h ls (is_skipped (trim line)) refl room

-- ---- the first line

named : (word line : List ℕ) → names_charset (plain_name (word ++ drop (length word) line)) ≡ false
    → begins word line ≡ true → names_charset (plain_name line) ≡ false
named word line none is = grind (arith, of-word, starts_with-rest)

either : (a b : Bool) (P : Type 0) → (a || b) ≡ true → (a ≡ true → P) → (b ≡ true → P) → P
either true b P is one other = one refl
either false b P is one other = other is

-- no word of libhyphen names a charset
unnamed : (line : List ℕ) → begins_word line ≡ true → names_charset (plain_name line) ≡ false
unnamed line is =
    let none = names_charset (plain_name line) ≡ false in
    either (begins (codes "LEFTHYPHENMIN") line) _ none is (named (codes "LEFTHYPHENMIN") line refl)
    (λ second. either (begins (codes "RIGHTHYPHENMIN") line) _ none second (named (codes "RIGHTHYPHENMIN") line refl)
    (λ third. either (begins (codes "COMPOUNDLEFTHYPHENMIN") line) _ none third
    (named (codes "COMPOUNDLEFTHYPHENMIN") line refl)
    (λ fourth. either (begins (codes "COMPOUNDRIGHTHYPHENMIN") line) _ none fourth
    (named (codes "COMPOUNDRIGHTHYPHENMIN") line refl)
    (λ fifth. either (begins (codes "NOHYPHEN") line) (begins (codes "NEXTLEVEL") line) none fifth
    (named (codes "NOHYPHEN") line refl) (named (codes "NEXTLEVEL") line refl)))))

wordless : (line : List ℕ) → names_charset (plain_name line) ≡ true → begins_word line ≡ false
wordless line is = elim (cases_Bool (begins_word line)) [
  | inl word ↦ absurd (false≢true (sym (unnamed line word) ∙ is))
  | inr other ↦ other
]

first-whole : (line : List ℕ) (c : Bool) → names_charset (plain_name line) ≡ c
    → whole_said Start line ≡ (if c then Some (Right 2) else command_said line)
first-whole line true name =
    rw name (ap (λ o. option_or o (Some (Right 2))) (command-none line (wordless line name)))
first-whole line false name = rw name (or-none (command_said line))

first-by : (line : List ℕ) (ls : List (List ℕ)) (b c : Bool) → is_skipped (trim line) ≡ b
    → names_charset (plain_name (trim line)) ≡ c → Room no_patterns (line ∷ ls)
    → IsLine 1 (if b then [] else SaysAll false line (if c then Some (Right 2) else command_said (trim line)))
    no_patterns ls (λ f. IsWrongLine false 0 f line)
first-by line ls true c is name room = inr (
  no_patterns,
  refl,
  room-kept no_patterns no_patterns line ls refl room,
  λ g wrong. unshown false (trim line) is g wrong.0,
)
first-by line ls false true is name room = inr (
  record no_patterns { right = 2 },
  refl,
  room-kept no_patterns (record no_patterns { right = 2 }) line ls refl room,
  λ g wrong. false≢true (sym wrong.1 ∙ name),
)
first-by line ls false false is name room = step-as (λ k. Room k ls) 1 (SaysAll false line (command_said (trim line)))
    no_patterns (λ f. IsWrong false f (trim line)) (λ f. IsWrongLine false 0 f line) (λ f wrong. (wrong, name))
    (λ f wrong. wrong.0) (known-is false 1 line no_patterns ls is room)

-- ---- lines

own_of : Option Fault → Bool
own_of None = false
own_of (Some f) = is_of_line f

counts-own : (x y : Bool)
    → own_of (if x then Some fault.TooMany else if y then Some fault.Empty else None) ≡ false
unfolding own_of
counts-own true y = refl
counts-own false true = refl
counts-own false false = refl

ended-own : (k n : ℕ) (o : Option Fault) (h : Listed) (f : Fault) → own_of o ≡ false → is_of_line f ≡ true
    → ended k o h ≡ Err (Line n f) → ⊥
unfolding own_of
ended-own k n None h f none own told = false≢true (ap is_told told)
ended-own k n (Some g) h f none own told = grind arith

lines-iff : (k : ℕ) (among : Bool) (ls : List (List ℕ)) (h : Listed) (n : ℕ) (f : Fault) → Room h ls
    → is_of_line f ≡ true
    → (with_lines (suc k) (listed_in among) ls h ≡ Err (Line n f)) ↔ IsFirstWrong among (suc k) ls n f
lines-iff k among [] h n f room own = grind (arith, ended-own, listed_in, end-own)
  where
    end-own : (x : Bool) → own_of (end_fault (listed_in x) (length h.patterns) (length h.exceptions)) ≡ false
    end-own true = counts-own _ _
    end-own false = counts-own _ _
lines-iff k among (line ∷ ls) h n f room own =
    let m = suc (suc k) in
    let saids = listed_said (listed_in among) (trim line) in
    let next = are_among among (trim line) in
    let W : Fault → Type 0 = λ g. IsWrong among g (trim line) in
    let is : IsLine m saids h ls W = line-of among m line h ls room in
    let rest : (j : Listed) → Room j ls
    → (with_lines m (listed_in next) ls j ≡ Err (Line n f)) ↔ IsFirstWrong next m ls n f =
    λ j more. lines-iff (suc k) next ls j n f more own in
    subst (λ o. (o ≡ Err (Line n f)) ↔ IsFirstWrong among (suc k) (line ∷ ls) n f)
    (sym (list-step (suc k) among line ls h)) (
      line-to m n f saids h (λ j. Room j ls) W (IsFirstWrong next m ls n f) (with_lines m (listed_in next) ls) rest is,
      line-from m n f saids h (λ j. Room j ls) W (IsFirstWrong next m ls n f) (with_lines m (listed_in next) ls) rest is,
    )

first-iff : (first : List ℕ) (ls : List (List ℕ)) (n : ℕ) (f : Fault) → is_tex first ≡ false
    → groups_in (first ∷ ls) ≤ 1 → is_of_line f ≡ true
    → (with_lines 0 Start (first ∷ ls) no_patterns ≡ Err (Line n f)) ↔ IsFirstWrong false 0 (first ∷ ls) n f
first-iff first ls n f list few own =
    let saids = listed_said Start (trim first) in
    let next = are_among false (trim first) in
    let W : Fault → Type 0 = λ g. IsWrongLine false 0 g first in
    let is : IsLine 1 saids no_patterns ls W =
    subst (λ whole. IsLine 1 (if is_skipped (trim first) then [] else SaysAll false first whole) no_patterns ls W)
    (sym (first-whole (trim first) (names_charset (plain_name (trim first))) refl))
    (first-by first ls (is_skipped (trim first)) (names_charset (plain_name (trim first))) refl refl (inr (refl, few))) in
    let rest : (j : Listed) → Room j ls
    → (with_lines 1 (listed_in next) ls j ≡ Err (Line n f)) ↔ IsFirstWrong next 1 ls n f =
    λ j room. lines-iff 0 next ls j n f room own in
    subst (λ o. (o ≡ Err (Line n f)) ↔ IsFirstWrong false 0 (first ∷ ls) n f) (sym (first-step first ls list)) (
      line-to 1 n f saids no_patterns (λ j. Room j ls) W (IsFirstWrong next 1 ls n f) (with_lines 1 (listed_in next) ls) rest is,
      line-from 1 n f saids no_patterns (λ j. Room j ls) W (IsFirstWrong next 1 ls n f) (with_lines 1 (listed_in next) ls) rest is,
    )

pub errors-of-lines : (text first : List ℕ) (more : List (List ℕ)) (n : ℕ) (f : Fault) → is_tex first ≡ false
    → lines (unmarked text) ≡ first ∷ more → groups_in (first ∷ more) ≤ 1 → is_of_line f ≡ true
    → (parsed text ≡ Err (Line n f)) ↔ IsFirstWrong false 0 (first ∷ more) n f
errors-of-lines text first more n f list are few own =
    subst (λ ls. (with_lines 0 Start ls no_patterns ≡ Err (Line n f)) ↔ IsFirstWrong false 0 (first ∷ more) n f) (sym are)
    (first-iff first more n f list few own)
