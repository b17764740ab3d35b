-- What the program's arguments mean.
use Rattle.std.specs.Prelude.{ℕ, ◌^◌, Bool, ◌&&◌, nat_lt, List, [], ◌∷◌, length, Option, Some, None}
use Rattle.std.specs.Prelude.{codes, if◌then◌else◌}
use Rattle.std.specs.Option.{option_and_then, option_map}
use Rattle.std.specs.Str.{all_ascii_digits, bytes_eq}
use Rattle.std.specs.Str.Parse.{digits_value}
use Rattle.textwrap_base.specs.Penalties.{default_penalties}
use Rattle.textwrap_words.specs.WrapAlgorithms as library
use Rattle.textwrap_program.specs.declared.arguments.Algorithm.{Algorithm}
use Rattle.textwrap_program.specs.declared.arguments.Algorithm.TheVariants.{FirstFit, OptimalFit}
use Rattle.textwrap_program.specs.declared.arguments.FillRequest.{FillRequest}

-- the algorithm of the library that is meant
abbrev pub asked_algorithm : Algorithm → library.Algorithm
asked_algorithm FirstFit = library.ByFirstFit
asked_algorithm OptimalFit = library.ByOptimalFit default_penalties

-- one or more ASCII digits that are a number of 64 bits
abbrev pub is_width : List ℕ → Bool
is_width word =
    (nat_lt 0 (length word) && all_ascii_digits word) && nat_lt (digits_value 10 word) (2 ^ 64)

abbrev pub width_of : List ℕ → Option ℕ
width_of word = if is_width word then Some (digits_value 10 word) else None

abbrev pub algorithm_of : List ℕ → Option Algorithm
algorithm_of word =
    if bytes_eq word (codes "first") then Some FirstFit
    else if bytes_eq word (codes "optimal") then Some OptimalFit
    else None

-- the request of a width and an algorithm, where both are there
abbrev pub request_with : List ℕ → Option Algorithm → Option FillRequest
request_with width algorithm =
    let with_width : ℕ → Option FillRequest =
    λ w. option_map (λ a. record { width = w; algorithm = a }) algorithm in
    option_and_then with_width (width_of width)

-- the request that the words after the program's name mean, if any
abbrev pub request_of : List (List ℕ) → Option FillRequest
request_of [] = None
request_of (width ∷ []) = request_with width (Some OptimalFit)
request_of (width ∷ algorithm ∷ []) = request_with width (algorithm_of algorithm)
request_of (width ∷ algorithm ∷ more ∷ words) = None
