-- The points of a text without blanks: offsets in bytes at which a dictionary has a hyphen.
use Rattle.std.specs.Prelude.{ℕ, zero, suc, ◌-◌, Bool, ◌&&◌, ◌==◌, ◌++◌, List, [], ◌∷◌, if◌then◌else◌}
use Rattle.std.specs.Prelude.{filter, length, map, nat_le, not, slice_index, take}
use Rattle.std.specs.List.{list_any, range_with_len}
use Rattle.textwrap_hyphens.specs.Hyphenation.{Hyphenation, places_of}
use Rattle.textwrap_patterns.specs.Letters.{is_hyphen_character, is_letter_or_mark, letters_of, run_len}
use Rattle.textwrap_patterns.specs.declared.letters.Letter.{Letter}

-- where the letters begin that stand behind some places
abbrev pub points_at : List Letter → List ℕ → List ℕ
points_at letters places = map (λ place. slice_index (map (λ c. c.at) letters) place) places

abbrev pub points_in : Hyphenation → List Letter → List ℕ
points_in h run = points_at run (places_of h (map (λ c. c.ch) run))

-- directly before an offset stand the bytes of a soft hyphen
abbrev pub is_behind_soft : List ℕ → ℕ → Bool
is_behind_soft word at =
    (nat_le 2 at && nat_le at (length word))
    && ((slice_index word (at - 2) == 0xC2) && (slice_index word (at - 1) == 0xAD))

-- before which letters but the first a soft hyphen stands
abbrev pub soft_places : List ℕ → List Letter → List ℕ
soft_places word letters =
    filter (λ place. is_behind_soft word (slice_index (map (λ c. c.at) letters) place))
    (range_with_len 1 (length letters - 1))

-- the points that soft hyphens give, if they are asked for
abbrev pub soft_points : Hyphenation → List ℕ → List Letter → List ℕ
soft_points h word letters =
    if h.soft_hyphens then points_at letters (soft_places word letters) else []

-- the points of the runs that begin behind the first n characters
abbrev pub points_past : Hyphenation → ℕ → List Letter → List ℕ
points_past h n [] = []
points_past h (suc n) (c ∷ cs) = points_past h n cs
points_past h zero (c ∷ cs) =
    if is_letter_or_mark c.ch
    then points_in h (take (run_len (c ∷ cs)) (c ∷ cs)) ++ points_past h (run_len (c ∷ cs) - 1) cs
    else points_past h zero cs

-- each longest run of letters is hyphenated for itself; a text with a hyphen only if asked
abbrev pub pattern_points : Hyphenation → List Letter → List ℕ
pattern_points h letters =
    if not h.in_parts && list_any (λ c. is_hyphen_character c.ch) letters then []
    else points_past h 0 letters

-- the points of soft hyphens, else those of the patterns
abbrev pub hyphenation_points : Hyphenation → List ℕ → List ℕ
hyphenation_points h word =
    let letters = letters_of word in
    if length (soft_points h word letters) == 0 then pattern_points h letters
    else soft_points h word letters
