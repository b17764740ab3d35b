-- The rules of line breaking, LB2 to LB31 of UAX #14 at Unicode 15.0, LB25 in two forms. The first
-- rule that applies says whether a line may be broken between what stands before a place and the
-- next unit. In the comments × is "may not", ÷ "may", ! "must".
use Rattle.std.specs.Prelude.{ℕ, ◌&&◌, ◌||◌, Bool, false, not, List, [], ◌∷◌, if◌then◌else◌}
use Rattle.textwrap_unicode.specs.declared.before.Before.{Before}
use Rattle.textwrap_text.specs.declared.classes.Unit.{Unit}
use Rattle.textwrap_unicode.specs.declared.numbers.Numbers.{Numbers}
use Rattle.textwrap_unicode.specs.declared.numbers.Numbers.TheVariants.{ByPairs, ByExpression}
use Rattle.textwrap_unicode.specs.declared.rules.Verdict.{Verdict}
use Rattle.textwrap_unicode.specs.declared.rules.Verdict.TheVariants.{Mandatory, Allowed}
use Rattle.textwrap_unicode.specs.declared.rules.Verdict.TheVariants.{Prohibited}
use Rattle.textwrap_unicode.specs.Before.{as_letter}
use Rattle.textwrap_text.specs.Classes.{class_of}
use Rattle.textwrap_text.specs.ClassSets.{is_mark, is_space, is_regional_indicator}
use Rattle.textwrap_text.specs.ClassSets.{takes_no_mark, is_line_end, is_carriage_return}
use Rattle.textwrap_text.specs.ClassSets.{is_line_feed, is_zero_width_space, is_word_joiner}
use Rattle.textwrap_text.specs.ClassSets.{is_glue, breaks_before_glue, is_closing, is_after_text}
use Rattle.textwrap_text.specs.ClassSets.{is_opening, is_quotation, is_nonstarter}
use Rattle.textwrap_text.specs.ClassSets.{breaks_on_both_sides, is_contingent, is_never_first}
use Rattle.textwrap_text.specs.ClassSets.{is_before_text, is_hebrew, is_hyphen, is_symbol}
use Rattle.textwrap_text.specs.ClassSets.{is_inseparable, is_letter, is_number, is_prefix}
use Rattle.textwrap_text.specs.ClassSets.{is_postfix, is_affix, is_ideograph, ends_number}
use Rattle.textwrap_text.specs.ClassSets.{leads_to_number, is_jamo, is_leading_jamo}
use Rattle.textwrap_text.specs.ClassSets.{follows_leading, ends_in_vowel, follows_vowel}
use Rattle.textwrap_text.specs.ClassSets.{ends_in_trailing, is_trailing_jamo, is_infix}
use Rattle.textwrap_text.specs.ClassSets.{is_letter_or_number, is_close_parenthesis}
use Rattle.textwrap_text.specs.ClassSets.{is_emoji_base, is_emoji_modifier, opens_number}
use Rattle.textwrap_text.specs.ClassSets.{goes_on_number}

-- whether it applies between what stands before a place and the next unit
abbrev pub Rule : Type 0
Rule = Before → Unit → Bool

-- LB2: sot ×, so the start of a text is no place to break
abbrev pub lb2 : Rule
lb2 before next = before.is_start

-- LB4: BK !; LB5: CR × LF, CR !, LF !, NL !
abbrev pub lb4 : Rule
lb4 before next =
    is_line_end before.class && not (is_carriage_return before.class && is_line_feed next.class)

-- LB5: CR × LF; LB6: × (BK | CR | LF | NL)
abbrev pub lb6 : Rule
lb6 before next = is_line_end next.class

-- LB7: × SP, × ZW
abbrev pub lb7 : Rule
lb7 before next = is_space next.class || is_zero_width_space next.class

-- LB8: ZW SP* ÷
abbrev pub lb8 : Rule
lb8 before next = is_zero_width_space before.past_spaces

-- LB8a: ZWJ ×
abbrev pub lb8a : Rule
lb8a before next = before.is_joined

-- LB9: X × (CM | ZWJ), where X is no BK, CR, LF, NL, SP or ZW
abbrev pub lb9 : Rule
lb9 before next = not (takes_no_mark before.class) && is_mark next.class

-- LB11: × WJ, WJ ×
abbrev pub lb11 : Rule
lb11 before next = is_word_joiner next.class || is_word_joiner before.class

-- LB12: GL ×
abbrev pub lb12 : Rule
lb12 before next = is_glue before.class

-- LB12a: [^SP BA HY] × GL
abbrev pub lb12a : Rule
lb12a before next = not (breaks_before_glue before.class) && is_glue next.class

-- LB13: × (CL | CP | EX | IS | SY)
abbrev pub lb13 : Rule
lb13 before next = is_after_text next.class

-- LB14: OP SP* ×
abbrev pub lb14 : Rule
lb14 before next = is_opening before.past_spaces

-- LB15: QU SP* × OP
abbrev pub lb15 : Rule
lb15 before next = is_quotation before.past_spaces && is_opening next.class

-- LB16: (CL | CP) SP* × NS
abbrev pub lb16 : Rule
lb16 before next = is_closing before.past_spaces && is_nonstarter next.class

-- LB17: B2 SP* × B2
abbrev pub lb17 : Rule
lb17 before next = breaks_on_both_sides before.past_spaces && breaks_on_both_sides next.class

-- LB18: SP ÷
abbrev pub lb18 : Rule
lb18 before next = is_space before.class

-- LB19: × QU, QU ×
abbrev pub lb19 : Rule
lb19 before next = is_quotation next.class || is_quotation before.class

-- LB20: ÷ CB, CB ÷
abbrev pub lb20 : Rule
lb20 before next = is_contingent next.class || is_contingent before.class

-- LB21: × (BA | HY | NS), BB ×
abbrev pub lb21 : Rule
lb21 before next = is_never_first next.class || is_before_text before.class

-- LB21a: HL (HY | BA) ×
abbrev pub lb21a : Rule
lb21a before next = is_hyphen before.class && before.follows_hebrew

-- LB21b: SY × HL
abbrev pub lb21b : Rule
lb21b before next = is_symbol before.class && is_hebrew next.class

-- LB22: × IN
abbrev pub lb22 : Rule
lb22 before next = is_inseparable next.class

-- LB23: (AL | HL) × NU, NU × (AL | HL)
abbrev pub lb23 : Rule
lb23 before next =
    (is_letter before.class && is_number next.class)
    || (is_number before.class && is_letter next.class)

-- LB23a: PR × (ID | EB | EM), (ID | EB | EM) × PO
abbrev pub lb23a : Rule
lb23a before next =
    (is_prefix before.class && is_ideograph next.class)
    || (is_ideograph before.class && is_postfix next.class)

-- LB24: (PR | PO) × (AL | HL), (AL | HL) × (PR | PO)
abbrev pub lb24 : Rule
lb24 before next =
    (is_affix before.class && is_letter next.class)
    || (is_letter before.class && is_affix next.class)

-- LB25 by pairs: (CL | CP | NU) × (PO | PR), (PO | PR) × OP, (PO | PR | HY | IS | NU | SY) × NU
abbrev pub lb25 : Rule
lb25 before next =
    (ends_number before.class && is_affix next.class)
    || (is_affix before.class && is_opening next.class)
    || (leads_to_number before.class && is_number next.class)

-- LB25 by the expression of numbers in example 7 of the annex: (PR | PO) × (OP | HY)? NU,
-- (OP | HY) × NU, NU (NU | SY | IS)* × (NU | SY | IS | CL | CP),
-- NU (NU | SY | IS)* (CL | CP)? × (PR | PO). The Bool says whether NU stands behind the next unit
abbrev pub lb25_by_expression : Bool → Rule
lb25_by_expression number_follows before next =
    (is_affix before.class && is_number next.class)
    || ((is_affix before.class && opens_number next.class) && number_follows)
    || (opens_number before.class && is_number next.class)
    || (before.is_in_number && goes_on_number next.class)
    || (before.is_past_number && is_affix next.class)

-- the form by the expression asks whether NU stands there
abbrev pub asks_behind : Before → Unit → Bool
asks_behind before next = is_affix before.class && opens_number (as_letter next).class

-- the first of these characters that is no mark is NU
abbrev pub number_first : List ℕ → Bool
number_first [] = false
number_first (c ∷ cs) = if is_mark (class_of c) then number_first cs else is_number (class_of c)

-- LB25, where these characters stand behind the next unit
abbrev pub numbers_rule : Numbers → List ℕ → Rule
numbers_rule ByPairs back = lb25
numbers_rule ByExpression back = lb25_by_expression (number_first back)

-- LB26: JL × (JL | JV | H2 | H3), (JV | H2) × (JV | JT), (JT | H3) × JT
abbrev pub lb26 : Rule
lb26 before next =
    (is_leading_jamo before.class && follows_leading next.class)
    || (ends_in_vowel before.class && follows_vowel next.class)
    || (ends_in_trailing before.class && is_trailing_jamo next.class)

-- LB27: (JL | JV | JT | H2 | H3) × PO, PR × (JL | JV | JT | H2 | H3)
abbrev pub lb27 : Rule
lb27 before next =
    (is_jamo before.class && is_postfix next.class)
    || (is_prefix before.class && is_jamo next.class)

-- LB28: (AL | HL) × (AL | HL)
abbrev pub lb28 : Rule
lb28 before next = is_letter before.class && is_letter next.class

-- LB29: IS × (AL | HL)
abbrev pub lb29 : Rule
lb29 before next = is_infix before.class && is_letter next.class

-- LB30: (AL | HL | NU) × OP but a wide one, CP but a wide one × (AL | HL | NU)
abbrev pub lb30 : Rule
lb30 before next =
    (is_letter_or_number before.class && is_opening next.class && not next.is_wide)
    || (is_close_parenthesis before.class && is_letter_or_number next.class && not before.is_wide)

-- LB30a: sot (RI RI)* RI × RI, [^RI] (RI RI)* RI × RI
abbrev pub lb30a : Rule
lb30a before next = is_regional_indicator next.class && before.is_half_flag

-- LB30b: EB × EM, an unassigned pictograph × EM
abbrev pub lb30b : Rule
lb30b before next =
    is_emoji_modifier next.class && (is_emoji_base before.class || before.is_unassigned_pictograph)

-- ---- their order

-- LB5 to LB7, which say ×
abbrev pub is_kept : Rule
is_kept before next =
    lb6 before next
    || lb7 before next

-- LB11 to LB17, which say ×
abbrev pub is_glued : Rule
is_glued before next =
    lb11 before next
    || lb12 before next
    || lb12a before next
    || lb13 before next
    || lb14 before next
    || lb15 before next
    || lb16 before next
    || lb17 before next

-- LB21 to LB30b, which say ×, with a form of LB25
abbrev pub is_held : Rule → Rule
is_held numbers before next =
    lb21 before next
    || lb21a before next
    || lb21b before next
    || lb22 before next
    || lb23 before next
    || lb23a before next
    || lb24 before next
    || numbers before next
    || lb26 before next
    || lb27 before next
    || lb28 before next
    || lb29 before next
    || lb30 before next
    || lb30a before next
    || lb30b before next

-- LB10: from LB11 on a mark is a letter
abbrev pub for_letters : Rule → Rule
for_letters rule before next = rule before (as_letter next)

-- a rule, and what it says where it applies
pub record Saying : Type 0 where
  pub says : Verdict
  pub where_applies : Rule

abbrev pub say : Verdict → Rule → Saying
say verdict rule = record { says = verdict; where_applies = rule }

-- in the order of the annex, with a form of LB25
abbrev pub rules : Rule → List Saying
rules numbers =
    say Prohibited lb2
    ∷ say Mandatory lb4
    ∷ say Prohibited is_kept
    ∷ say Allowed lb8
    ∷ say Prohibited lb8a
    ∷ say Prohibited lb9
    ∷ say Prohibited (for_letters is_glued)
    ∷ say Allowed lb18
    ∷ say Prohibited (for_letters lb19)
    ∷ say Allowed (for_letters lb20)
    ∷ say Prohibited (for_letters (is_held numbers))
    ∷ []

-- the first rule that applies decides; LB31: ÷ where none does
abbrev pub first_said : List Saying → Before → Unit → Verdict
first_said [] before next = Allowed
first_said (rule ∷ others) before next =
    if rule.where_applies before next then rule.says else first_said others before next

abbrev pub decide_by : Rule → Before → Unit → Verdict
decide_by numbers = first_said (rules numbers)

-- with numbers by pairs
abbrev pub decide : Before → Unit → Verdict
decide = decide_by lb25
