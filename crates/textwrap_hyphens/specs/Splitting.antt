-- The points at which a dictionary, or a hyphen of its own within no escape sequence, splits a word.
use Rattle.std.specs.List.{list_any}
use Rattle.std.specs.Prelude.{◌≡◌, ℕ, ◌==◌, ◌||◌, Bool, List, filter}
use Rattle.textwrap_hyphens.specs.{Hyphenation.Hyphenation, Outside.is_hyphen_outside}
use Rattle.textwrap_hyphens.specs.Points.{hyphenation_points}
use Rattle.textwrap_words.specs.WordSplitters.{inner_offsets}

-- the dictionary has a hyphen at the offset, or a hyphen between alphanumeric characters ends there that
-- stands within no escape sequence
abbrev pub is_split_point : Hyphenation → List ℕ → ℕ → Bool
is_split_point h text at =
    list_any (λ point. point == at) (hyphenation_points h text) || is_hyphen_outside text at

abbrev pub split_points : Hyphenation → List ℕ → List ℕ
split_points h text = filter (is_split_point h text) (inner_offsets text)

-- with the dictionary, the text may be split at these points
abbrev pub ArePointsBy : Hyphenation → List ℕ → List ℕ → Type 0
ArePointsBy h text points = points ≡ split_points h text
