-- Where texts are cut into words by options without functions, what stands on either side of a cut of a
-- printable one, and where words are split: the laws of such cuts.
use Rattle.std.proofs.lemmas.Bool.{and_parts, eqb-true, not-true}
use Rattle.std.specs.Char.{is_ascii_alphanumeric}
use Rattle.std.specs.Prelude.{ℕ, ◌-◌, List, None, Some, slice_index, ◌≡◌}
use Rattle.textwrap_hyphens.proofs.{SplitPieces.held-inner, SplitPoints.hyphens-inner, SplitPoints.own-inner}
use Rattle.textwrap_layout.specs.{Direct.AreWordsCut, Printable.AfterOthers, Printable.BeforeOthers}
use Rattle.textwrap_plain.specs.Options.{is_cut_plainly, points_by, words_by}
use Rattle.textwrap_plain.specs.declared.options.PlainSeparator.{PlainSeparator}
use Rattle.textwrap_plain.specs.declared.options.PlainSeparator.TheVariants.{AtBlanks, AtBreaks}
use Rattle.textwrap_plain.specs.declared.options.PlainSplitter.{PlainSplitter}
use Rattle.textwrap_plain.specs.declared.options.PlainSplitter.TheVariants.{BuiltIn, Dictionary}
use Rattle.textwrap_plain.specs.declared.options.PlainSplitter.TheVariants.{OutsideSequences}
use Rattle.textwrap_text.proofs.Common.{false≢true, ap, IsPrintable, IsUtf8, is_blank, refl, stripped}
use Rattle.textwrap_text.proofs.Common.{subst, sym}
use Rattle.textwrap_unicode.proofs.PrintableCuts.{cut-after_other, cut-before_other}
use Rattle.textwrap_unicode.specs.{Breaks.breaks_by, Cuts.cuts_by, Cuts.offsets_of}
use Rattle.textwrap_unicode.specs.declared.numbers.Numbers.TheVariants.{ByExpression, ByPairs}
use Rattle.textwrap_words.proofs.Word.{Cuts.inner-cuts, Offsets.cuts_at-AreInnerCuts}
use Rattle.textwrap_words.specs.Cuts.{AreCuts, AreInnerCuts}
use Rattle.textwrap_words.specs.declared.pieces.BuiltInSplitter.TheVariants.{HyphenSplitter, NoHyphenation}

pub cuts-before_others : (separator : PlainSeparator) (text : List ℕ) → IsPrintable text
    → BeforeOthers (is_cut_plainly separator text) text
cuts-before_others AtBlanks text printable place after inside cut = not-true _ (and_parts _ _ cut).1
cuts-before_others (AtBreaks ByPairs) text printable place after inside cut =
    cut-before_other text printable place after inside cut
cuts-before_others (AtBreaks ByExpression) text printable place after inside cut =
    absurd (false≢true cut)

pub cuts-after_others : (separator : PlainSeparator) (text : List ℕ) → IsPrintable text
    → AfterOthers (is_cut_plainly separator text) text
cuts-after_others AtBlanks text printable place after inside cut =
    ap is_ascii_alphanumeric (eqb-true (slice_index text (place - 1)) 32
    (and_parts (is_blank (slice_index text (place - 1))) _ cut).0)
cuts-after_others (AtBreaks ByPairs) text printable place after inside cut =
    cut-after_other text printable place after inside cut
cuts-after_others (AtBreaks ByExpression) text printable place after inside cut =
    absurd (false≢true cut)

pub words_by-cut : (separator : PlainSeparator) (text : List ℕ) → IsUtf8 text
    → AreWordsCut text (words_by separator text)
words_by-cut AtBlanks text utf8 = (None, tt, refl)
words_by-cut (AtBreaks numbers) text utf8 = (
  Some (cuts_by numbers text),
  cuts_at-AreInnerCuts (offsets_of (breaks_by numbers (stripped text))) text utf8,
  refl,
)

-- a word is split into parts that are not empty
pub points_by-inner : (splitter : PlainSplitter) (word points : List ℕ) → IsUtf8 word
    → points ≡ points_by splitter word → AreInnerCuts word points
points_by-inner (BuiltIn NoHyphenation) word points utf8 are = subst (AreInnerCuts word) (sym are) tt
points_by-inner (BuiltIn HyphenSplitter) word points utf8 are =
    subst (AreInnerCuts word) (sym are) (hyphens-inner word utf8)
points_by-inner OutsideSequences word points utf8 are =
    subst (AreInnerCuts word) (sym are) (own-inner word utf8)
points_by-inner (Dictionary table) word points utf8 are = held-inner table word points utf8 are

pub points_by-cuts : (splitter : PlainSplitter) (word points : List ℕ) → IsUtf8 word
    → points ≡ points_by splitter word → AreCuts word points
points_by-cuts splitter word points utf8 are =
    inner-cuts word points (points_by-inner splitter word points utf8 are)
