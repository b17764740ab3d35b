-- The sets of classes that the rules of line breaking speak of.
use Rattle.std.specs.Prelude.{Bool, true, false}
use Rattle.unicode.specs.declared.properties.LineBreak.{LineBreak}
use Rattle.unicode.specs.declared.properties.LineBreak.TheVariants.{Alphabetic, BreakAfter}
use Rattle.unicode.specs.declared.properties.LineBreak.TheVariants.{BreakBefore, BreakBoth}
use Rattle.unicode.specs.declared.properties.LineBreak.TheVariants.{BreakSymbols, CarriageReturn}
use Rattle.unicode.specs.declared.properties.LineBreak.TheVariants.{CloseParenthesis}
use Rattle.unicode.specs.declared.properties.LineBreak.TheVariants.{ClosePunctuation, CombiningMark}
use Rattle.unicode.specs.declared.properties.LineBreak.TheVariants.{ContingentBreak, EBase}
use Rattle.unicode.specs.declared.properties.LineBreak.TheVariants.{EModifier, Exclamation, Glue}
use Rattle.unicode.specs.declared.properties.LineBreak.TheVariants.{H2, H3, HebrewLetter, Hyphen}
use Rattle.unicode.specs.declared.properties.LineBreak.TheVariants.{Ideographic, InfixNumeric}
use Rattle.unicode.specs.declared.properties.LineBreak.TheVariants.{Inseparable, Jl, Jt, Jv}
use Rattle.unicode.specs.declared.properties.LineBreak.TheVariants.{LineFeed, MandatoryBreak}
use Rattle.unicode.specs.declared.properties.LineBreak.TheVariants.{NextLine, Nonstarter, Numeric}
use Rattle.unicode.specs.declared.properties.LineBreak.TheVariants.{OpenPunctuation, PostfixNumeric}
use Rattle.unicode.specs.declared.properties.LineBreak.TheVariants.{PrefixNumeric, Quotation}
use Rattle.unicode.specs.declared.properties.LineBreak.TheVariants.{RegionalIndicator, Space}
use Rattle.unicode.specs.declared.properties.LineBreak.TheVariants.{WordJoiner, ZWSpace, Zwj}

-- CM or ZWJ
abbrev pub is_mark : LineBreak → Bool
is_mark CombiningMark = true
is_mark Zwj = true
is_mark class = false

abbrev pub is_zwj : LineBreak → Bool
is_zwj Zwj = true
is_zwj class = false

-- SP
abbrev pub is_space : LineBreak → Bool
is_space Space = true
is_space class = false

-- RI
abbrev pub is_regional_indicator : LineBreak → Bool
is_regional_indicator RegionalIndicator = true
is_regional_indicator class = false

-- BK, CR, LF, NL, SP or ZW: no mark belongs to it
abbrev pub takes_no_mark : LineBreak → Bool
takes_no_mark MandatoryBreak = true
takes_no_mark CarriageReturn = true
takes_no_mark LineFeed = true
takes_no_mark NextLine = true
takes_no_mark Space = true
takes_no_mark ZWSpace = true
takes_no_mark class = false

-- BK, CR, LF or NL: ends a line
abbrev pub is_line_end : LineBreak → Bool
is_line_end MandatoryBreak = true
is_line_end CarriageReturn = true
is_line_end LineFeed = true
is_line_end NextLine = true
is_line_end class = false

abbrev pub is_carriage_return : LineBreak → Bool
is_carriage_return CarriageReturn = true
is_carriage_return class = false

abbrev pub is_line_feed : LineBreak → Bool
is_line_feed LineFeed = true
is_line_feed class = false

-- ZW
abbrev pub is_zero_width_space : LineBreak → Bool
is_zero_width_space ZWSpace = true
is_zero_width_space class = false

-- WJ
abbrev pub is_word_joiner : LineBreak → Bool
is_word_joiner WordJoiner = true
is_word_joiner class = false

-- GL
abbrev pub is_glue : LineBreak → Bool
is_glue Glue = true
is_glue class = false

-- SP, BA or HY
abbrev pub breaks_before_glue : LineBreak → Bool
breaks_before_glue Space = true
breaks_before_glue BreakAfter = true
breaks_before_glue Hyphen = true
breaks_before_glue class = false

-- CL or CP
abbrev pub is_closing : LineBreak → Bool
is_closing ClosePunctuation = true
is_closing CloseParenthesis = true
is_closing class = false

-- CL, CP, EX, IS or SY: closes what is before it
abbrev pub is_after_text : LineBreak → Bool
is_after_text ClosePunctuation = true
is_after_text CloseParenthesis = true
is_after_text Exclamation = true
is_after_text InfixNumeric = true
is_after_text BreakSymbols = true
is_after_text class = false

-- OP
abbrev pub is_opening : LineBreak → Bool
is_opening OpenPunctuation = true
is_opening class = false

-- QU
abbrev pub is_quotation : LineBreak → Bool
is_quotation Quotation = true
is_quotation class = false

-- NS
abbrev pub is_nonstarter : LineBreak → Bool
is_nonstarter Nonstarter = true
is_nonstarter class = false

-- B2
abbrev pub breaks_on_both_sides : LineBreak → Bool
breaks_on_both_sides BreakBoth = true
breaks_on_both_sides class = false

-- CB
abbrev pub is_contingent : LineBreak → Bool
is_contingent ContingentBreak = true
is_contingent class = false

-- BA, HY or NS
abbrev pub is_never_first : LineBreak → Bool
is_never_first BreakAfter = true
is_never_first Hyphen = true
is_never_first Nonstarter = true
is_never_first class = false

-- BB
abbrev pub is_before_text : LineBreak → Bool
is_before_text BreakBefore = true
is_before_text class = false

-- HL
abbrev pub is_hebrew : LineBreak → Bool
is_hebrew HebrewLetter = true
is_hebrew class = false

-- HY or BA
abbrev pub is_hyphen : LineBreak → Bool
is_hyphen Hyphen = true
is_hyphen BreakAfter = true
is_hyphen class = false

-- SY
abbrev pub is_symbol : LineBreak → Bool
is_symbol BreakSymbols = true
is_symbol class = false

-- IN
abbrev pub is_inseparable : LineBreak → Bool
is_inseparable Inseparable = true
is_inseparable class = false

-- AL or HL
abbrev pub is_letter : LineBreak → Bool
is_letter Alphabetic = true
is_letter HebrewLetter = true
is_letter class = false

-- NU
abbrev pub is_number : LineBreak → Bool
is_number Numeric = true
is_number class = false

-- PR
abbrev pub is_prefix : LineBreak → Bool
is_prefix PrefixNumeric = true
is_prefix class = false

-- PO
abbrev pub is_postfix : LineBreak → Bool
is_postfix PostfixNumeric = true
is_postfix class = false

-- PR or PO: stands before a number or after one
abbrev pub is_affix : LineBreak → Bool
is_affix PrefixNumeric = true
is_affix PostfixNumeric = true
is_affix class = false

-- ID, EB or EM
abbrev pub is_ideograph : LineBreak → Bool
is_ideograph Ideographic = true
is_ideograph EBase = true
is_ideograph EModifier = true
is_ideograph class = false

-- CL, CP or NU
abbrev pub ends_number : LineBreak → Bool
ends_number ClosePunctuation = true
ends_number CloseParenthesis = true
ends_number Numeric = true
ends_number class = false

-- PO, PR, HY, IS, NU or SY
abbrev pub leads_to_number : LineBreak → Bool
leads_to_number PostfixNumeric = true
leads_to_number PrefixNumeric = true
leads_to_number Hyphen = true
leads_to_number InfixNumeric = true
leads_to_number Numeric = true
leads_to_number BreakSymbols = true
leads_to_number class = false

-- OP or HY: may stand between PR or PO and a number
abbrev pub opens_number : LineBreak → Bool
opens_number OpenPunctuation = true
opens_number Hyphen = true
opens_number class = false

-- SY or IS: may stand inside a number
abbrev pub is_inside_number : LineBreak → Bool
is_inside_number BreakSymbols = true
is_inside_number InfixNumeric = true
is_inside_number class = false

-- NU, SY, IS, CL or CP: may stand inside a number or close it
abbrev pub goes_on_number : LineBreak → Bool
goes_on_number Numeric = true
goes_on_number BreakSymbols = true
goes_on_number InfixNumeric = true
goes_on_number ClosePunctuation = true
goes_on_number CloseParenthesis = true
goes_on_number class = false

-- JL, JV, JT, H2 or H3
abbrev pub is_jamo : LineBreak → Bool
is_jamo Jl = true
is_jamo Jv = true
is_jamo Jt = true
is_jamo H2 = true
is_jamo H3 = true
is_jamo class = false

-- JL
abbrev pub is_leading_jamo : LineBreak → Bool
is_leading_jamo Jl = true
is_leading_jamo class = false

-- JL, JV, H2 or H3
abbrev pub follows_leading : LineBreak → Bool
follows_leading Jl = true
follows_leading Jv = true
follows_leading H2 = true
follows_leading H3 = true
follows_leading class = false

-- JV or H2
abbrev pub ends_in_vowel : LineBreak → Bool
ends_in_vowel Jv = true
ends_in_vowel H2 = true
ends_in_vowel class = false

-- JV or JT
abbrev pub follows_vowel : LineBreak → Bool
follows_vowel Jv = true
follows_vowel Jt = true
follows_vowel class = false

-- JT or H3
abbrev pub ends_in_trailing : LineBreak → Bool
ends_in_trailing Jt = true
ends_in_trailing H3 = true
ends_in_trailing class = false

-- JT
abbrev pub is_trailing_jamo : LineBreak → Bool
is_trailing_jamo Jt = true
is_trailing_jamo class = false

-- IS
abbrev pub is_infix : LineBreak → Bool
is_infix InfixNumeric = true
is_infix class = false

-- AL, HL or NU
abbrev pub is_letter_or_number : LineBreak → Bool
is_letter_or_number Alphabetic = true
is_letter_or_number HebrewLetter = true
is_letter_or_number Numeric = true
is_letter_or_number class = false

-- CP
abbrev pub is_close_parenthesis : LineBreak → Bool
is_close_parenthesis CloseParenthesis = true
is_close_parenthesis class = false

-- EB
abbrev pub is_emoji_base : LineBreak → Bool
is_emoji_base EBase = true
is_emoji_base class = false

-- EM
abbrev pub is_emoji_modifier : LineBreak → Bool
is_emoji_modifier EModifier = true
is_emoji_modifier class = false
