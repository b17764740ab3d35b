-- Where a word may be split, and the pieces of it.
use Rattle.std.specs.Prelude.{◌≡◌, ℕ, ◌++◌, ◌-◌, Bool, true, false, ◌==◌, ◌&&◌, ◌||◌, List, [], ◌∷◌}
use Rattle.std.specs.Prelude.{chars, drop, filter, if◌then◌else◌, length, reverse, slice_range}
use Rattle.std.specs.Prelude.{take, Option, Some, None, Ok}
use Rattle.std.specs.List.{flat_map, range_with_len}
use Rattle.textwrap_words.specs.Words.{piece, WordText}
use Rattle.textwrap_text.specs.Lists.{last}
use Rattle.unicode.specs.GeneralCategory.{general_category}
use Rattle.unicode.specs.GeneralCategoryGroup.{in_group}
use Rattle.unicode.specs.declared.properties.GeneralCategoryGroup.TheVariants.{Number}
use Rattle.unicode.specs.Binary.{is_alphabetic}
use Rattle.textwrap_words.specs.declared.word_splitters.WordSplitter.{WordSplitter}
use Rattle.textwrap_words.specs.declared.word_splitters.WordSplitter.TheVariants.{NoHyphenation}
use Rattle.textwrap_words.specs.declared.word_splitters.WordSplitter.TheVariants.{HyphenSplitter, Custom}
use Rattle.textwrap_words.specs.declared.word_splitters.word_cuts.WordCuts.{WordCuts}

-- ---- the points

-- Alphabetic, or a number: of general category Nd, Nl or No
abbrev pub is_alphanumeric : ℕ → Bool
is_alphanumeric c = is_alphabetic c || in_group Number (general_category c)

-- the first character is alphanumeric
abbrev pub begins_alphanumeric : List ℕ → Bool
begins_alphanumeric [] = false
begins_alphanumeric (c ∷ cs) = is_alphanumeric c

abbrev pub hyphen : ℕ
hyphen = 45

abbrev pub ends_in_hyphen : List ℕ → Bool
ends_in_hyphen text = last text == hyphen

-- a hyphen between alphanumeric characters ends at the offset
abbrev pub is_hyphen_point : List ℕ → ℕ → Bool
is_hyphen_point text point =
    ends_in_hyphen (take point text) && begins_alphanumeric
    (reverse (chars (take (point - 1) text)))
    && begins_alphanumeric (chars (drop point text))

-- the offsets within a text, without its ends
abbrev pub inner_offsets : List ℕ → List ℕ
inner_offsets text = range_with_len 1 (length text - 1)

abbrev pub hyphen_points : List ℕ → List ℕ
hyphen_points text = filter (is_hyphen_point text) (inner_offsets text)

-- a built-in way to split words: nowhere, or after hyphens
pub data Splitter : Type 0 where
  Whole : Splitter
  AtHyphens : Splitter

abbrev pub points_of : Splitter → List ℕ → List ℕ
points_of Whole text = []
points_of AtHyphens text = hyphen_points text

-- the splitter gives these points
abbrev pub ArePoints : Splitter → List ℕ → List ℕ → Type 0
ArePoints splitter text points = points ≡ points_of splitter text

-- ---- the points of a splitter of the library: a built-in one, or one of a caller

-- which built-in splitter it is, if it is one
abbrev pub splitter_view : {F : Type 0} {f : _} → WordSplitter F f → Option Splitter
splitter_view NoHyphenation = Some Whole
splitter_view HyphenSplitter = Some AtHyphens
splitter_view (Custom given) = None

-- the caller's function may give these points for this text
abbrev pub MayPoint : {F : Type 0} {f : _} → WordCuts F f → List ℕ → List ℕ → Type 0
MayPoint {f = f} given text points =
    (alloc : _) × (asked : _) × (answer : _) × (asked.now ≡ text) × (answer.items ≡ points)
    × f.post given.function (alloc, (asked, tt)) (Ok answer)

-- the splitter may give these points for this text
abbrev pub MaySplit : {F : Type 0} {f : _} → WordSplitter F f → List ℕ → List ℕ → Type 0
MaySplit NoHyphenation text points = ArePoints Whole text points
MaySplit HyphenSplitter text points = ArePoints AtHyphens text points
MaySplit (Custom given) text points = MayPoint given text points

-- equal are the same built-in splitters: a function of a caller is known to be equal to none
abbrev pub are_equal : {F : Type 0} {f : _} → WordSplitter F f → WordSplitter F f → Bool
are_equal NoHyphenation NoHyphenation = true
are_equal NoHyphenation HyphenSplitter = false
are_equal NoHyphenation (Custom others) = false
are_equal HyphenSplitter NoHyphenation = false
are_equal HyphenSplitter HyphenSplitter = true
are_equal HyphenSplitter (Custom others) = false
are_equal (Custom given) other = false

-- ---- the pieces

-- a cut at the offset prints a hyphen where the text up to it does not end in one
abbrev pub cut_penalty : List ℕ → ℕ → List ℕ
cut_penalty text point = if ends_in_hyphen (take point text) then [] else hyphen ∷ []

-- the pieces of what follows an offset: the last has the whitespace and the penalty of the word
abbrev pub split_from : WordText → ℕ → List ℕ → List WordText
split_from w start [] = piece (drop start w.word) w.whitespace w.penalty ∷ []
split_from w start (point ∷ points) =
    piece (slice_range w.word start point) [] (cut_penalty w.word point) ∷ split_from w point points

abbrev pub split_pieces : List ℕ → WordText → List WordText
split_pieces points w = split_from w 0 points

abbrev pub split_word : Splitter → WordText → List WordText
split_word splitter w = split_pieces (points_of splitter w.word) w

-- the words, each replaced by its pieces
abbrev pub split_words : Splitter → List WordText → List WordText
split_words splitter words = flat_map (split_word splitter) words

-- the words, each replaced by its pieces at points of its
abbrev pub AreSplit : (List ℕ → List ℕ → Type 0) → List WordText → List WordText → Type 0
AreSplit Points [] pieces = pieces ≡ []
AreSplit Points (w ∷ words) pieces =
    (points : List ℕ) × (rest : List WordText) × Points w.word points × AreSplit Points words rest
    × (pieces ≡ split_pieces points w ++ rest)
