-- What a dictionary of hyphenation holds, and the places of a word at which it has a hyphen.
use Rattle.std.specs.Prelude.{ℕ, ◌+◌, ◌-◌, ◌%◌, Bool, false, ◌==◌, ◌&&◌, ◌||◌, not, List, [], ◌∷◌, ◌++◌}
use Rattle.std.specs.Prelude.{Option, Some, None, bytes_eq, drop, filter, if◌then◌else◌, length}
use Rattle.std.specs.Prelude.{slice_index, take, unwrap_or}
use Rattle.std.specs.List.{range_with_len}
use Rattle.textwrap_patterns.specs.Letters.{apostrophe, counts, has_letters}
use Rattle.textwrap_patterns.specs.Listed.{ExceptionText, Listed}
use Rattle.textwrap_hyphens.specs.Levels.{dotted, level, levels_of, longest, pattern_level_from}

-- what a dictionary says: the greatest level that patterns at the beginning of a text have at a place
-- of it, first those of the joints of compounds, then those of their parts, how many letters these have at
-- most, the places of an exception with some letters, how many letters stay before the first hyphen and
-- behind the last, and between a joint and a hyphen behind it or before it, at how many patterns letters
-- would change, whether the parts of a word with hyphens are hyphenated, and whether soft hyphens are the
-- only points of a word that has them
pub record Hyphenation : Type 0 where
  pub joint_from : List ℕ → ℕ → ℕ
  pub level_from : List ℕ → ℕ → ℕ
  pub longest : ℕ
  pub exception : List ℕ → Option (List ℕ)
  pub left : ℕ
  pub right : ℕ
  pub compound_left : ℕ
  pub compound_right : ℕ
  pub changed : ℕ
  pub in_parts : Bool
  pub soft_hyphens : Bool

-- the places of the first exception with these letters, if there is one
abbrev pub exception_for : List ExceptionText → List ℕ → Option (List ℕ)
exception_for [] letters = None
exception_for (e ∷ es) letters =
    if bytes_eq e.letters letters then Some e.places else exception_for es letters

-- what a dictionary says in which this is listed
abbrev pub hyphenation_by : Listed → Hyphenation
hyphenation_by d = record {
  joint_from = pattern_level_from d.joints;
  level_from = pattern_level_from d.patterns;
  longest = longest d.patterns;
  exception = exception_for d.exceptions;
  left = d.left;
  right = d.right;
  compound_left = d.compound_left;
  compound_right = d.compound_right;
  changed = d.changed;
  in_parts = false;
  soft_hyphens = false;
}

-- the level of a place inside a word is odd
abbrev pub is_odd : (List ℕ → ℕ → ℕ) → List ℕ → ℕ → Bool
is_odd from letters place = level from (dotted letters) (place + 1) % 2 == 1

-- the levels of a word from the first on, up to that of the last place with enough letters behind it
abbrev pub first_levels : Hyphenation → List ℕ → List ℕ
first_levels h letters = take (length letters - h.right + 2) (levels_of h.level_from letters)

-- where a compound is joined: the patterns of joints have an odd level there
abbrev pub joints_of : Hyphenation → List ℕ → List ℕ
joints_of h letters = filter (is_odd h.joint_from letters) (range_with_len 1 (length letters - 1))

-- there are enough letters on both sides of a place, no mark behind it, and no apostrophe beside it
abbrev pub is_allowed : Hyphenation → List ℕ → ℕ → Bool
is_allowed h letters place =
    not (slice_index letters (place - 1) == apostrophe) && counts (slice_index letters place)
    && has_letters h.left (take place letters) && has_letters h.right (drop place letters)

-- the letters between two places
abbrev pub part : ℕ → ℕ → List ℕ → List ℕ
part from to letters = take (to - from) (drop from letters)

-- there are enough letters between a place of a part and a joint, too
abbrev pub is_far : Hyphenation → List ℕ → ℕ → ℕ → ℕ → Bool
is_far h letters from to place =
    ((from == 0) || has_letters h.compound_left (part from place letters))
    && ((to == length letters) || has_letters h.compound_right (part place to letters))
    && is_allowed h letters place

-- a place of a part has an odd level there
abbrev pub is_place : Hyphenation → List ℕ → ℕ → ℕ → ℕ → Bool
is_place h letters from to place =
    is_odd h.level_from (part from to letters) (place - from) && is_far h letters from to place

abbrev pub part_places : Hyphenation → List ℕ → ℕ → ℕ → List ℕ
part_places h letters from to =
    filter (is_place h letters from to) (range_with_len (from + 1) (to - from - 1))

-- the places from one on: joints, and those of the parts between them
abbrev pub places_from : Hyphenation → List ℕ → ℕ → List ℕ → List ℕ
places_from h letters from [] = part_places h letters from (length letters)
places_from h letters from (joint ∷ joints) =
    part_places h letters from joint
    ++ (filter (is_allowed h letters) (joint ∷ []) ++ places_from h letters joint joints)

-- the places of a word: those of its exception, else those that the patterns allow
abbrev pub places_of : Hyphenation → List ℕ → List ℕ
places_of h letters =
    unwrap_or (h.exception letters) (places_from h letters 0 (joints_of h letters))
