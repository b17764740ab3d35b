-- What is divided without a list of words.
use Rattle.std.specs.Prelude.{◌≡◌, ◌≢◌, ℕ, Bool, IfSome, List, None, Option, Some, map}
use Rattle.std.specs.Option.{option_map}
use Rattle.std.specs.Str.{IsUtf8}
use Rattle.textwrap_base.specs.Division.{IsGreedy}
use Rattle.textwrap_words.specs.Cuts.{AreInnerCuts, parts_between}
use Rattle.textwrap_words.specs.Pieces.{as_splitter}
use Rattle.textwrap_words.specs.WordSplitters.{Splitter, splitter_view}
use Rattle.textwrap_words.specs.Words.{WordText, sizes_of, word_of, words_of}
use Rattle.textwrap_words.specs.WrapAlgorithms.{Algorithm, ByFirstFit, IsDividedBy, ByOptimalFit}
use Rattle.textwrap_words.specs.WrapAlgorithms.{algorithm_view}
use Rattle.textwrap_layout.specs.Options.{Settings}
use Rattle.textwrap_layout.specs.Paragraph.{pieces_of_words, widths_of}
use Rattle.textwrap_layout.specs.declared.parts.BuiltInAlgorithm as algorithms
use Rattle.textwrap_layout.specs.declared.parts.BuiltInParts.{BuiltInParts}
use Rattle.textwrap_layout.specs.declared.options.Options.{Options}
use Rattle.textwrap_layout.specs.declared.paragraph_pieces.Cuts.{Cuts}
use Rattle.textwrap_words.specs.declared.word_separators.WordSeparator.TheVariants.{AsciiSpace}
use Rattle.textwrap_words.specs.declared.wrap_algorithms.WrapAlgorithm.TheVariants.{FirstFit}

-- a built-in algorithm as a value of the logic
abbrev pub as_algorithm : algorithms.BuiltInAlgorithm → Algorithm
as_algorithm algorithms.TheVariants.FirstFit = ByFirstFit
as_algorithm (algorithms.TheVariants.OptimalFit penalties) = ByOptimalFit penalties

-- words between blanks, a built-in splitter and first fit: this needs no memory of its own
pub record IsDirect {E C : Type 0} {e : _} {c : _} (o : Options E C e c) : Type 0 where
  pub separator : o.word_separator ≡ AsciiSpace
  pub splitter : splitter_view o.word_splitter ≢ None
  pub algorithm : o.wrap_algorithm ≡ FirstFit

-- ---- where a paragraph is cut

-- its words: between these cuts, or between blanks where none are given
abbrev pub words_cut : Option (List ℕ) → List ℕ → List WordText
words_cut None paragraph = words_of paragraph
words_cut (Some cuts) paragraph = map word_of (parts_between cuts paragraph)

-- the paragraph can be cut there
abbrev pub CanBeCut : Option (List ℕ) → List ℕ → Type 0
CanBeCut cuts paragraph = IfSome cuts (AreInnerCuts paragraph)

abbrev pub cuts_of : Cuts → Option (List ℕ)
cuts_of cuts = option_map (λ places. places.now) cuts.words

-- its pieces
abbrev pub pieces_cut : Settings → Cuts → List ℕ → List WordText
pieces_cut settings cuts paragraph =
    pieces_of_words settings (as_splitter cuts.splitter) (words_cut (cuts_of cuts) paragraph)

-- these are the words of a line that is cut somewhere, or at its blanks
abbrev pub AreWordsCut : List ℕ → List WordText → Type 0
AreWordsCut line words = (cuts : Option (List ℕ)) × CanBeCut cuts line × (words ≡ words_cut cuts line)

-- by these relations, words that may be found are divided so by a built-in splitter and algorithm
abbrev pub AreParts : Settings → (List ℕ → List WordText → Type 0)
    → (Bool → List ℕ → List (List WordText) → Type 0) → BuiltInParts → Type 0
AreParts settings Separates Divides parts =
    (is_later : Bool) (paragraph : List ℕ) (words : List WordText) (division : List (List WordText))
    → Separates paragraph words
    → IsDividedBy (as_algorithm parts.algorithm) sizes_of (widths_of settings is_later)
    (pieces_of_words settings (as_splitter parts.splitter) words) division
    → Divides is_later paragraph division

-- these are the splitter and the algorithm, both built in
pub record HasMethods {E C : Type 0} {e : _} {c : _} (o : Options E C e c) (splitter : Splitter)
    (algorithm : Algorithm) : Type 0 where
  pub splitter_is : splitter_view o.word_splitter ≡ Some splitter
  pub algorithm_is : algorithm_view o.wrap_algorithm ≡ Some algorithm

-- ---- what a word needs not be asked for

-- each line takes as many pieces as fit
abbrev pub TakesWhatFits : (List ℕ → List WordText → List (List WordText) → Type 0) → Type 0
TakesWhatFits Lines =
    (widths : List ℕ) (pieces : List WordText) (division : List (List WordText))
    → IsGreedy sizes_of widths pieces division → Lines widths pieces division

-- each word has points, and they are inside it
abbrev pub HasInnerPoints : (List ℕ → List ℕ → Type 0) → Type 0
HasInnerPoints Points =
    (word : List ℕ) → IsUtf8 word
    → (points : List ℕ) × Points word points × AreInnerCuts word points
