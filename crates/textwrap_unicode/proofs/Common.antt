-- The names of the definitions and lemmas that most proofs cite. Declares nothing.
pub use Rattle.textwrap_text.proofs.ClassNames.{not-true, ◌↔◌}
pub use Rattle.textwrap_unicode.specs.{Before.before_of, Before.nothing, BreaksLeft.and_words}
pub use Rattle.textwrap_unicode.specs.{BreaksLeft.and, declared.numbers.Numbers.TheVariants.ByPairs}
pub use Rattle.textwrap_unicode.specs.{BreaksLeft.breaks_after, declared.rules.Verdict.Verdict}
pub use Rattle.textwrap_unicode.specs.Breaks.{break_at, breaks_by, breaks_from, verdict_by}
pub use Rattle.textwrap_unicode.specs.Cuts.{cuts_by, may_end, offsets_of, unicode_cuts}
pub use Rattle.textwrap_unicode.specs.Pairs.{IsUsual, class_past_blanks, is_unusual, printable_cut}
pub use Rattle.textwrap_unicode.specs.Rules.{decide, decide_by, is_kept, number_first, numbers_rule}
pub use Rattle.textwrap_unicode.specs.declared.{before.Before.Before, numbers.Numbers.Numbers}
pub use Rattle.textwrap_unicode.specs.declared.rules.Verdict.TheVariants.{Mandatory, Prohibited}
pub use Rattle.textwrap_unicode.specs.declared.rules.Verdict.TheVariants.{Allowed}
pub use Rattle.textwrap_words.{proofs.Word.Parts.cut_here, specs.WordOffsets.is_any_hyphen}
