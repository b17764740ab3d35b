-- Patterns at whose hyphen letters change, as libhyphen has them: a pattern, a slash, and the change.
use Rattle.std.specs.{Int.is_in_range, List.list_any, List.prefix_len}
use Rattle.std.specs.Prelude.{ℕ, suc, ◌+◌, ◌-◌, ◌*◌, ◌%◌, Bool, ◌==◌, ◌&&◌, not, List, [], ◌∷◌, Option, None}
use Rattle.std.specs.Prelude.{Some, drop, if◌then◌else◌, length, nat_lt, take}
use Rattle.textwrap_patterns.specs.{Listed.PatternText, Written.is_digit, declared.changes.Region.Region}

-- how many characters stand before the first of this one, these characters, and those behind it
abbrev pub before : ℕ → List ℕ → ℕ
before wanted cs = prefix_len (λ c. not (c == wanted)) cs

abbrev pub text_before : ℕ → List ℕ → List ℕ
text_before sign cs = take (before sign cs) cs

abbrev pub text_behind : ℕ → List ℕ → List ℕ
text_behind sign cs = drop 1 (drop (before sign cs) cs)

-- one digit or two
abbrev pub number_of : List ℕ → Option ℕ
number_of [] = None
number_of (one ∷ []) = if is_digit one then Some (one - 0x30) else None
number_of (ten ∷ one ∷ []) =
    if is_digit ten && is_digit one then Some (10 * (ten - 0x30) + (one - 0x30)) else None
number_of (one ∷ other ∷ more ∷ cs) = None

abbrev pub has_equals : List ℕ → Bool
has_equals text = list_any (λ c. c == 0x3D) text

abbrev pub has_comma : List ℕ → Bool
has_comma text = list_any (λ c. c == 0x2C) text

-- the dot in front of letters, which counts for none
abbrev pub dots : List ℕ → ℕ
dots [] = 0
dots (c ∷ cs) = if c == 0x2E then 1 else 0

-- the places before, between and behind so many letters, from one of them on
abbrev pub region_at : ℕ → Option ℕ → Option ℕ → Option Region
region_at dots (Some from) (Some count) =
    Some (record { first = dots + (from - 1); last = dots + (from - 1) + count })
region_at dots (Some from) None = None
region_at dots None count = None

-- a change is what is printed in place of letters, with a `=` where the line ends; behind it two numbers
-- say from which letter on, counted from 1, and how many letters change: without them all do, and what
-- stands behind a third comma says nothing
abbrev pub region_said : List ℕ → List ℕ → Option Region
region_said letters change =
    if not (has_equals (text_before 0x2C change)) then None
    else if has_comma change
    then region_at (dots letters) (number_of (text_before 0x2C (text_behind 0x2C change)))
    (number_of (text_before 0x2C (text_behind 0x2C (text_behind 0x2C change))))
    else Some (record { first = 0; last = length letters })

-- in a region a digit that allows a hyphen becomes the next number, which allows none
abbrev pub barred_at : Region → ℕ → ℕ → ℕ
barred_at region place level =
    if is_in_range region.first region.last place && nat_lt level 10 then level + level % 2 else level

-- the levels of the places from one on, without the hyphens of a region
abbrev pub barred_from : Region → ℕ → List ℕ → List ℕ
barred_from region place [] = []
barred_from region place (level ∷ levels) =
    barred_at region place level ∷ barred_from region (suc place) levels

-- a pattern that allows no hyphen where letters would change
abbrev pub without_changes : Region → PatternText → PatternText
without_changes region p = record p { levels = barred_from region 0 p.levels }
