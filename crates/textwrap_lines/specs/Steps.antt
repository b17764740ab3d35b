-- The pieces of a paragraph at cuts and points.
use Rattle.std.specs.Prelude.{◌≡◌, ℕ, ◌+◌, ◌-◌, ◌&&◌, Bool, nat_lt, List, [], ◌∷◌, ◌++◌, filter}
use Rattle.std.specs.Prelude.{length, map}
use Rattle.textwrap_words.specs.Cuts.{AreInnerCuts, parts_between}
use Rattle.textwrap_words.specs.WordSplitters.{split_pieces}
use Rattle.textwrap_words.specs.Words.{WordText, tile_of, word_of}
use Rattle.textwrap_layout.specs.Options.{Settings}
use Rattle.textwrap_layout.specs.Paragraph.{broken_pieces_of}

abbrev pub is_between : ℕ → ℕ → ℕ → Bool
is_between start end point = nat_lt start point && nat_lt point end

-- the points inside a part of a text, of so many bytes from `at` on, as offsets of that part
abbrev pub points_within : ℕ → ℕ → List ℕ → List ℕ
points_within at len points = map (λ p. p - at) (filter (is_between at (at + len)) points)

-- words that stand one after another from `at` on, each replaced by its pieces at the points inside it
abbrev pub split_at : ℕ → List ℕ → List WordText → List WordText
split_at at points [] = []
split_at at points (w ∷ words) =
    split_pieces (points_within at (length w.word) points) w
    ++ split_at (at + length (tile_of w)) points words

-- the pieces of a paragraph: its words between the cuts, split at the points and broken
abbrev pub pieces_at : Settings → List ℕ → List ℕ → List ℕ → List WordText
pieces_at settings cuts points paragraph =
    broken_pieces_of settings (split_at 0 points (map word_of (parts_between cuts paragraph)))

-- the words of a line that is cut at some inner offsets
abbrev pub AreWordsBetween : List ℕ → List WordText → Type 0
AreWordsBetween line words =
    (cuts : List ℕ) × AreInnerCuts line cuts × (words ≡ map word_of (parts_between cuts line))
