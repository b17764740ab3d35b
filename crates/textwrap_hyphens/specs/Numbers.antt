-- A dictionary in one list of numbers: a version, a trie of patterns, one of exceptions and one of
-- joints, and at the end at how many patterns letters would change, how many patterns of joints there
-- are, the place of their root, the letters of the longest, the letters between a joint and a hyphen on
-- its two sides, the places of the roots of exceptions and of patterns, the letters of the longest
-- pattern, the letters before and behind a hyphen, and a sum of all before it.
use Rattle.std.specs.Prelude.{◌≡◌, ℕ, zero, suc, Bool, List, false, length, take}
use Rattle.textwrap_hyphens.specs.{Hyphenation.Hyphenation, InnerPlaces.inner_places}
use Rattle.textwrap_hyphens.specs.Seal.{from_end, with_minima}
use Rattle.textwrap_patterns.specs.Trie.{level_from, numbers_for}

-- the levels by the trie at a root, where the longest key has so many letters
abbrev pub levels_at : List ℕ → ℕ → ℕ → List ℕ → ℕ → ℕ
levels_at words root longest text place = level_from (take longest text) words root place

-- the same, if there are so many keys
abbrev pub levels_if : ℕ → (List ℕ → ℕ → ℕ) → List ℕ → ℕ → ℕ
levels_if zero levels text place = 0
levels_if (suc n) levels text place = levels text place

-- what the numbers say of words
abbrev pub held_in : List ℕ → Bool → Hyphenation
held_in words in_parts = record {
  joint_from =
      levels_if (from_end 11 words) (levels_at words (from_end 10 words) (from_end 9 words));
  level_from = levels_at words (from_end 5 words) (from_end 4 words);
  longest = from_end 4 words;
  exception = λ letters. inner_places (length letters) (numbers_for letters words (from_end 6 words));
  left = from_end 3 words;
  right = from_end 2 words;
  compound_left = from_end 8 words;
  compound_right = from_end 7 words;
  changed = from_end 12 words;
  in_parts = in_parts;
  soft_hyphens = false;
}

-- patterns and exceptions say the same
abbrev pub ListTheSame : Hyphenation → Hyphenation → Type 0
ListTheSame h other =
    ((text : List ℕ) (place : ℕ) → h.joint_from text place ≡ other.joint_from text place)
    × ((text : List ℕ) (place : ℕ) → h.level_from text place ≡ other.level_from text place)
    × (h.longest ≡ other.longest)
    × ((letters : List ℕ) → h.exception letters ≡ other.exception letters)
    × (h.compound_left ≡ other.compound_left) × (h.compound_right ≡ other.compound_right)
    × (h.changed ≡ other.changed)

-- as they do in these numbers, whatever the minima become
abbrev pub KeepsLists : List ℕ → Type 0
KeepsLists words =
    (left right : ℕ)
    → ListTheSame (held_in (with_minima left right words) false) (held_in words false)
