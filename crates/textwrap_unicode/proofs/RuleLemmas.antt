-- The sets of classes, what the rules come to after each class and after given characters, and
-- places for which few of them are needed.
use Rattle.std.proofs.lemmas.Bool.{and_left, cond-false, or_left, or_parts, true_from_ne_false}
use Rattle.textwrap_text.proofs.ClassNames.{Bool, List, arith, false, is_mark, refl, true, unit_of}
use Rattle.textwrap_text.proofs.ClassNames.{[], ap, not, ℕ, ◌&&◌, ◌++◌, ◌||◌, ◌∙◌, ◌∷◌, ◌≡◌, ◌≢◌}
use Rattle.textwrap_text.proofs.ClassNames.{and-false, and_from, cases_Bool, class_of, is_space, sym}
use Rattle.textwrap_text.proofs.ClassNames.{if◌then◌else◌, is_after_text, is_opening, takes_no_mark}
use Rattle.textwrap_text.specs.ClassSets.{breaks_on_both_sides, is_line_end, is_zero_width_space}
use Rattle.textwrap_text.specs.ClassSets.{is_carriage_return, is_closing, is_quotation}
use Rattle.textwrap_text.specs.declared.classes.Unit.{Unit}
use Rattle.textwrap_text.proofs.Common.{◌⊎◌}
use Rattle.textwrap_unicode.proofs.Common.{Allowed, Mandatory, Prohibited, numbers_rule, verdict_by}
use Rattle.textwrap_unicode.proofs.Common.{Before, Numbers, Verdict, before_of, decide_by, not-true}
use Rattle.textwrap_unicode.proofs.Common.{decide, ◌↔◌}
use Rattle.textwrap_unicode.proofs.TextBreaks.{not-empty, text_of-push}
use Rattle.textwrap_unicode.specs.Before.{as_letter, class_past_spaces, first_class, takes_marks}
use Rattle.textwrap_unicode.specs.Rules.{Rule, Saying, first_said, lb4, lb8, lb9, rules}
use Rattle.textwrap_unicode.specs.{Before.Text, Before.text_of, Before.with_unit, Laws.ends_line}
use Rattle.unicode.proofs.BreaksComputing.{ucd_breaks}
use Rattle.unicode.specs.declared.properties.LineBreak.TheVariants.{Alphabetic, LineFeed, NextLine}
use Rattle.unicode.specs.declared.properties.LineBreak.TheVariants.{CarriageReturn, MandatoryBreak}
use Rattle.unicode.specs.declared.properties.LineBreak.TheVariants.{ClosePunctuation, CombiningMark}
use Rattle.unicode.specs.declared.properties.LineBreak.TheVariants.{H2, H3, Numeric, Space, ZWSpace}
use Rattle.unicode.specs.declared.properties.LineBreak.TheVariants.{HebrewLetter, Ideographic, Zwj}
use Rattle.unicode.specs.declared.properties.LineBreak.{LineBreak}

-- ---- classes

pub takes-is : (class : LineBreak) → takes_no_mark class
    ≡ is_line_end class || (is_space class || is_zero_width_space class)
takes-is MandatoryBreak = refl
takes-is CarriageReturn = refl
takes-is LineFeed = refl
takes-is NextLine = refl
takes-is Space = refl
takes-is ZWSpace = refl
takes-is class = refl

none-takes : (class : LineBreak) → takes_no_mark class ≡ false
    → (is_line_end class ≡ false) × (is_space class || is_zero_width_space class ≡ false)
none-takes class e = or_parts _ _ (sym (takes-is class) ∙ e)

pub line_end-takes : (class : LineBreak) → takes_no_mark class ≡ false → is_line_end class ≡ false
line_end-takes class e = (none-takes class e).0

pub return-takes : (class : LineBreak) → takes_no_mark class ≡ false
    → is_carriage_return class ≡ false
return-takes CarriageReturn e = cc
return-takes class e = refl

not-zero_width : (class : LineBreak) → takes_no_mark class ≡ false
    → is_zero_width_space class ≡ false
not-zero_width class e = (or_parts (is_space class) _ (none-takes class e).1).1

pub none-past : (units : List Unit) → takes_no_mark (first_class units) ≡ false
    → is_zero_width_space (class_past_spaces units) ≡ false
none-past [] e = refl
none-past (unit ∷ units) e = grind (arith, cond-false, not-zero_width)

-- a property that neither a mark nor a letter has
module _ (has : LineBreak → Bool) (of_mark : has CombiningMark ≡ false) (of_zwj : has Zwj ≡ false)
    (of_letter : has Alphabetic ≡ false)
    (of_base : (class : LineBreak) → takes_no_mark class ≡ false → has class ≡ false) where
  of-mark : (class : LineBreak) → is_mark class ≡ true → has class ≡ false
  of-mark CombiningMark e = of_mark
  of-mark Zwj e = of_zwj
  of-mark class e = cc

  of-first : (units : List Unit) → takes_marks units ≡ true → has (first_class units) ≡ false
  of-first [] e = cc
  of-first (unit ∷ units) e = of_base unit.class (not-true (takes_no_mark unit.class) e)

  -- the last unit has it if and only if the last character does
  pub last-has : (text : Text) (unit : Unit)
      → has (first_class (with_unit text unit).units) ≡ has unit.class
  last-has text unit = grind (arith, cases_Bool, of-first, of-mark, of_letter)

-- ---- the rules

prohibited-or : (b : Bool) (rest : Verdict) → rest ≡ Prohibited
    → (if b then Prohibited else rest) ≡ Prohibited
prohibited-or b rest e = grind (arith, cases_Bool)

-- none of these rules says that a line must end
abbrev NeverMust : List Saying → Type 0
NeverMust [] = Prim.Unit {0}
NeverMust (rule ∷ others) = (rule.says ≢ Mandatory) × NeverMust others

never-must : (sayings : List Saying) (before : Before) (next : Unit) → NeverMust sayings
    → first_said sayings before next ≢ Mandatory
never-must [] before next h = λ e. cc
never-must (rule ∷ others) before next h =
    grind (arith, cases_Bool, h.0, never-must others before next h.1)

abbrev tail : List Saying → List Saying
tail [] = []
tail (rule ∷ others) = others

-- the rules after LB5
abbrev past_ends : Rule → List Saying
past_ends numbers = tail (tail (rules numbers))

no : Prohibited ≢ Mandatory
no = λ e. cc

may : Allowed ≢ Mandatory
may = λ e. cc

rest-never : (numbers : Rule) → NeverMust (past_ends numbers)
rest-never numbers = (no, (may, (no, (no, (no, (may, (no, (may, (no, tt)))))))))

closing-mark : (class : LineBreak) → is_after_text class ≡ true → is_mark class ≡ false
closing-mark CombiningMark e = cc
closing-mark Zwj e = cc
closing-mark class e = refl

same-letter : (unit : Unit) → is_mark unit.class ≡ false → as_letter unit ≡ unit
same-letter unit e = cond-false (is_mark unit.class) (record unit { class = Alphabetic }) unit e

module _ (numbers : Rule) (before : Before) (next : Unit) (some : before.is_start ≡ false) where
  past-must : lb4 before next ≡ false
      → decide_by numbers before next ≡ first_said (past_ends numbers) before next
  past-must free = rw (some, free) refl

  pub must-only : decide_by numbers before next ≡ Mandatory → lb4 before next ≡ true
  must-only e = true_from_ne_false (lb4 before next) (λ free.
      never-must (past_ends numbers) before next (rest-never numbers) (sym (past-must free) ∙ e))

  pub decide-marked : lb4 before next ≡ false → lb8 before next ≡ false → lb9 before next ≡ true
      → decide_by numbers before next ≡ Prohibited
  decide-marked free after marked = search (rules, arith, prohibited-or)

  pub decide-closing : lb4 before next ≡ false → lb8 before next ≡ false
      → is_after_text next.class ≡ true → decide_by numbers before next ≡ Prohibited
  decide-closing free after closing =
      search (rules, arith, same-letter, closing-mark, or_left, prohibited-or)

-- ---- after a character

-- what the rules ask of the last unit is what they ask of the last character, unless that tells
-- marks from letters
module _ (numbers : Numbers) (front back : List ℕ) (c : ℕ) where
  abbrev form : Rule
  form = numbers_rule numbers back

  abbrev after : Before
  after = before_of (text_of (front ++ c ∷ []))

  after-started : after.is_start ≡ false
  after-started = grind (arith, text_of-push, not-empty)

  after-class : (has : LineBreak → Bool) → has CombiningMark ≡ false → has Zwj ≡ false
      → has Alphabetic ≡ false
      → ((class : LineBreak) → takes_no_mark class ≡ false → has class ≡ false)
      → has after.class ≡ has (class_of c)
  after-class has of_mark of_zwj of_letter of_base = grind (arith, text_of-push, last-has)

  after-ends : (next : ℕ) → lb4 after (unit_of next) ≡ ends_line c next
  after-ends next =
      rw (
        after-class is_line_end refl refl refl line_end-takes,
        after-class is_carriage_return refl refl refl return-takes,
      ) refl

  pub must-after : (next : ℕ)
      → (verdict_by numbers (front ++ c ∷ []) next back ≡ Mandatory) ↔ (ends_line c next ≡ true)
  must-after next = (
    λ e. sym (after-ends next) ∙ must-only form after (unit_of next) after-started e,
    λ e. rw (after-started, after-ends next ∙ e) refl,
  )

  pub kept-after : (next : ℕ) → ends_line c next ≡ false → takes_no_mark (class_of next) ≡ true
      → verdict_by numbers (front ++ c ∷ []) next back ≡ Prohibited
  kept-after next free kept = search (rules, arith, after-started, after-ends, takes-is)

  pub closing-after : (next : ℕ) → ends_line c next ≡ false
      → is_zero_width_space (class_past_spaces (text_of (front ++ c ∷ [])).units) ≡ false
      → is_after_text (class_of next) ≡ true → verdict_by numbers (front ++ c ∷ []) next back ≡ Prohibited
  closing-after next free past closing =
      decide-closing form after (unit_of next) after-started (after-ends next ∙ free) past closing

  pub marked-after : (next : ℕ) → takes_no_mark (class_of c) ≡ false
      → is_mark (class_of next) ≡ true
      → verdict_by numbers (front ++ c ∷ []) next back ≡ Prohibited
  marked-after next takes mark =
      let base = after-class takes_no_mark refl refl refl (λ class e. e) ∙ takes in
      let free : ends_line c next ≡ false = and_left (is_line_end (class_of c)) _
      (line_end-takes (class_of c) takes) in
      decide-marked form after (unit_of next) after-started (after-ends next ∙ free)
      (none-past (text_of (front ++ c ∷ [])).units base)
      (and_from (not (takes_no_mark after.class)) (is_mark (class_of next)) (ap not base) mark)

-- ---- line feeds, whose class is in the table

feed-class : class_of 0x0A ≡ LineFeed
unfolding ucd_breaks
feed-class = refl

return-class : class_of 0x0D ≡ CarriageReturn
unfolding ucd_breaks
return-class = refl

pub feeds-end : (numbers : Numbers) (front back : List ℕ) (next : ℕ)
    → verdict_by numbers (front ++ 0x0A ∷ []) next back ≡ Mandatory
feeds-end numbers front back next = (must-after numbers front back 0x0A next).1 (rw feed-class refl)

pub return-kept : (numbers : Numbers) (front back : List ℕ)
    → verdict_by numbers (front ++ 0x0D ∷ []) 0x0A back ≡ Prohibited
return-kept numbers front back = search (rules, arith, kept-after, return-class, feed-class)

-- ---- what is left of the rules between known classes

all-forbid : (starts joined glued : Bool) → Prohibited
    ≡ (if starts then Prohibited else if joined then Prohibited
    else if glued then Prohibited else Prohibited)
all-forbid starts joined glued = grind (arith, cases_Bool)

-- LB15 to LB17, before a class of which these rules do not speak
abbrev unglued : LineBreak → Bool
unglued past =
    (is_quotation past && false) || (is_closing past && false)
    || (breaks_on_both_sides past && false)

none-after : (past : LineBreak) → Allowed
    ≡ (if is_zero_width_space past then Allowed else if unglued past then Prohibited else Allowed)
none-after past = grind (arith, cases_Bool, and-false)

-- nothing but the class of the last unit can forbid that a line ends there
abbrev pub IsFree : Before → Type 0
IsFree before =
    not before.is_start && not before.is_joined && not (is_opening before.past_spaces) ≡ true

both-false : (s j o : Bool) → not s && not j && not o ≡ true
    → (s ≡ false) × (j ≡ false) × (o ≡ false)
both-false s j o e = grind (arith, cases_Bool)

-- ---- a letter or a number after another

abbrev pub IsInWord : LineBreak → Type 0
IsInWord class = (class ≡ Alphabetic) ⊎ ((class ≡ HebrewLetter) ⊎ (class ≡ Numeric))

pub letters-stay : (before : Before) (next : Unit) → IsInWord next.class → IsInWord before.class
    → is_zero_width_space before.past_spaces ≡ false → Prohibited ≡ decide before next
letters-stay before next is last h = grind (arith, all-forbid)

-- ---- an ideograph or a syllable after another, a space or the end of a bracket

abbrev pub IsApart : LineBreak → Type 0
IsApart class = (class ≡ Ideographic) ⊎ ((class ≡ H2) ⊎ (class ≡ H3))

abbrev pub EndsApart : LineBreak → Type 0
EndsApart class = (class ≡ Space) ⊎ ((class ≡ ClosePunctuation) ⊎ IsApart class)

pub ideographs-part : (before : Before) (next : Unit) → IsApart next.class
    → EndsApart before.class → IsFree before → Allowed ≡ decide before next
ideographs-part before next is last h = grind (arith, both-false, none-after)
