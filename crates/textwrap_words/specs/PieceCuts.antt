-- Where a text is cut into pieces by built-in parts, before these are broken, and the pieces from a
-- place on.
use Rattle.std.specs.Prelude.{◌≡◌, ℕ, ◌+◌, ◌-◌, ◌<◌, ◌≤◌, Bool, true, false, ◌||◌, List, [], ◌∷◌}
use Rattle.std.specs.Prelude.{drop, length, map, if◌then◌else◌, slice_index}
use Rattle.std.specs.List.{onto_first}
use Rattle.textwrap_text.specs.Blanks.{is_blank}
use Rattle.textwrap_words.specs.Breaking.{broken_words}
use Rattle.textwrap_words.specs.WordSplitters.{Splitter, Whole, AtHyphens, is_hyphen_point}
use Rattle.textwrap_words.specs.Words.{WordText, is_cut, word_of}

-- whether the splitter splits there, between a hyphen and what follows it
abbrev pub is_point : Splitter → List ℕ → ℕ → Bool
is_point Whole text place = false
is_point AtHyphens text place = is_hyphen_point text place

-- whether the text is cut at the place: between two words, or at a point of the splitter
abbrev pub is_piece_cut : Splitter → List ℕ → ℕ → Bool
is_piece_cut splitter text place =
    is_cut (slice_index text (place - 1)) (slice_index text place) || is_point splitter text place

-- the parts of the bytes after the first `at` of a text, cut wherever a test of places says so
abbrev pub parts_by : (ℕ → Bool) → ℕ → List ℕ → List (List ℕ)
parts_by test at [] = []
parts_by test at (b ∷ []) = (b ∷ []) ∷ []
parts_by test at (b ∷ c ∷ cs) =
    if test (at + 1) then (b ∷ []) ∷ parts_by test (at + 1) (c ∷ cs)
    else onto_first b (parts_by test (at + 1) (c ∷ cs))

-- the pieces of what follows a place: the parts as words, broken at the limit
abbrev pub pieces_from : (ℕ → Bool) → ℕ → List ℕ → ℕ → List WordText
pieces_from test limit text at = broken_words limit (map word_of (parts_by test at (drop at text)))

-- the same of a text with words between blanks
abbrev pub pieces_from_place : Splitter → ℕ → List ℕ → ℕ → List WordText
pieces_from_place splitter limit text at = pieces_from (is_piece_cut splitter text) limit text at

-- the same of a text that is one word with its blanks
abbrev pub pieces_within : Splitter → ℕ → List ℕ → ℕ → List WordText
pieces_within splitter limit text at = pieces_from (is_point splitter text) limit text at

-- ---- where a part ends, and the word in it

-- a part of the text goes from the one place to the other: up to the first cut, or to the end
pub record IsPart (test : ℕ → Bool) (text : List ℕ) (at end : ℕ) : Type 0 where
  pub some : at < end
  pub within : end ≤ length text
  pub uncut : (k : ℕ) → at < k → k < end → test k ≡ false
  pub ends : end < length text → test end ≡ true

-- blanks alone follow the place, up to the end of the part
pub record AreFinalBlanks (text : List ℕ) (at word_end end : ℕ) : Type 0 where
  pub from : at ≤ word_end
  pub up_to : word_end ≤ end
  pub other : at < word_end → is_blank (slice_index text (word_end - 1)) ≡ false
  pub blanks : (k : ℕ) → word_end ≤ k → k < end → is_blank (slice_index text k) ≡ true

-- a part of the text begins with a word that ends at the place
pub record IsPartWord (splitter : Splitter) (text : List ℕ) (at word_end : ℕ) : Type 0 where
  pub some : at < word_end
  pub within : word_end ≤ length text
  pub uncut : (k : ℕ) → at < k → k < word_end → is_piece_cut splitter text k ≡ false
  pub other : is_blank (slice_index text (word_end - 1)) ≡ false
  pub ends : word_end < length text → is_blank (slice_index text word_end) ≡ false
      → is_piece_cut splitter text word_end ≡ true
