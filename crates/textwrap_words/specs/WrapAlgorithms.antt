-- The algorithms of the library, the built-in ones and those of a caller: how each divides words.
use Rattle.std.specs.Prelude.{◌≡◌, ℕ, Bool, true, false, List, Option, Some, None, Ok, map}
pub use Rattle.textwrap_base.specs.Algorithms.{Algorithm, ByFirstFit, ByOptimalFit, IsDividedBy}
pub use Rattle.textwrap_base.specs.Algorithms.{OverflowsBy}
use Rattle.textwrap_words.specs.LineEnds.{lines_between}
use Rattle.textwrap_words.specs.Words.{WordText, word_view, sizes_of}
use Rattle.textwrap_base.specs.declared.penalties.Penalties.{Penalties}
use Rattle.textwrap_words.specs.declared.wrap_algorithms.WrapAlgorithm.{WrapAlgorithm}
use Rattle.textwrap_words.specs.declared.wrap_algorithms.WrapAlgorithm.TheVariants.{FirstFit}
use Rattle.textwrap_words.specs.declared.wrap_algorithms.WrapAlgorithm.TheVariants.{OptimalFit}
use Rattle.textwrap_words.specs.declared.wrap_algorithms.WrapAlgorithm.TheVariants.{Custom}
use Rattle.textwrap_words.specs.declared.wrap_algorithms.line_ends.LineEnds.{LineEnds}

-- which built-in algorithm it is, if it is one
abbrev pub algorithm_view : {F : Type 0} {f : _} → WrapAlgorithm F f → Option Algorithm
algorithm_view FirstFit = Some ByFirstFit
algorithm_view (OptimalFit penalties) = Some (ByOptimalFit penalties)
algorithm_view (Custom ends) = None

-- the caller's function may give these ends for these words, where lines may be so wide
abbrev pub MayEnd : {F : Type 0} {f : _} → LineEnds F f → List WordText → List ℕ → List ℕ → Type 0
MayEnd {f = f} given words widths ends =
    (alloc : _) × (asked : _) × (lent : _) × (answer : _)
    × (map word_view asked.now ≡ words) × (lent.now ≡ widths) × (answer.items ≡ ends)
    × f.post given.function (alloc, (asked, (lent, tt))) (Ok answer)

-- these elements, which are such words to it, may be divided so: by a function of the caller, into
-- the lines between ends that it may give
abbrev pub MayDivide : {F X : Type 0} {f : _} → WrapAlgorithm F f → (X → WordText) → List ℕ
    → List X → List (List X) → Type 0
MayDivide FirstFit view widths xs lines = IsDividedBy ByFirstFit (λ x. sizes_of (view x)) widths xs lines
MayDivide (OptimalFit penalties) view widths xs lines =
    IsDividedBy (ByOptimalFit penalties) (λ x. sizes_of (view x)) widths xs lines
MayDivide (Custom given) view widths xs lines =
    (ends : List ℕ) × MayEnd given (map view xs) widths ends × (lines ≡ lines_between ends xs)

-- equal are first fit to itself, and optimal fit to optimal fit with equal penalties; a function of
-- a caller is known to be equal to none
abbrev pub are_equal : {F : Type 0} {f : _} → (Penalties → Penalties → Bool)
    → WrapAlgorithm F f → WrapAlgorithm F f → Bool
are_equal same FirstFit FirstFit = true
are_equal same (OptimalFit penalties) (OptimalFit others) = same penalties others
are_equal same FirstFit (OptimalFit others) = false
are_equal same FirstFit (Custom others) = false
are_equal same (OptimalFit penalties) FirstFit = false
are_equal same (OptimalFit penalties) (Custom others) = false
are_equal same (Custom ends) other = false
