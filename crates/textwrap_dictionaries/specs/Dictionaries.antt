-- Texts of dictionaries, made of patterns and exceptions.
use Rattle.std.specs.Prelude.{◌≡◌, ℕ, suc, ◌+◌, ◌<◌, ◌≤◌, ◌==◌, ◌&&◌, ◌||◌, Bool, true, not, List, [], ◌∷◌}
use Rattle.std.specs.Prelude.{◌++◌, All, codes, if◌then◌else◌, length, map, nat_lt}
use Rattle.std.specs.Str.{all_scalars, encode_utf8_all}
use Rattle.textwrap_dictionaries.specs.Entries.{is_hyphen_sign, is_sign}
use Rattle.textwrap_patterns.specs.{Letters.folded, Listed.ExceptionText, Listed.PatternText}
use Rattle.textwrap_patterns.specs.{Places.AreInnerPlaces, Written.is_digit}

-- ---- what can be written

-- a character that stands for itself in a pattern: in lower case, and no digit, slash or sign
abbrev pub is_plain : ℕ → Bool
is_plain c =
    (all_scalars (c ∷ []) && (folded c == c)) && not (is_digit c || ((c == 0x2F) || is_sign c))

-- one that does so in an exception, and begins no comment
abbrev pub is_bare : ℕ → Bool
is_bare c = is_plain c && not (is_hyphen_sign c || (c == 0x23))

pub record IsPattern (p : PatternText) : Type 0 where
  pub plain : All (λ c. is_plain c ≡ true) p.letters
  pub few : length p.letters ≤ 255
  pub digits : All (λ level. nat_lt level 10 ≡ true) p.levels
  pub each : length p.levels ≡ length p.letters + 1

pub record IsException (e : ExceptionText) : Type 0 where
  pub bare : All (λ c. is_bare c ≡ true) e.letters
  pub inner : AreInnerPlaces (length e.letters) e.places
  pub some : 0 < length e.places

-- ---- lines

-- a level before each letter, and one behind the last
abbrev pub pattern_line : List ℕ → List ℕ → List ℕ
pattern_line [] letters = letters
pattern_line (level ∷ levels) [] = (level + 0x30) ∷ []
pattern_line (level ∷ levels) (c ∷ cs) = (level + 0x30) ∷ c ∷ pattern_line levels cs

-- hyphens at these places, where so many letters stand before
abbrev pub hyphened : ℕ → List ℕ → List ℕ → List ℕ
hyphened n [] letters = letters
hyphened n (place ∷ places) [] = []
hyphened n (place ∷ places) (c ∷ cs) =
    if place == n then 0x2D ∷ c ∷ hyphened (suc n) places cs
    else c ∷ hyphened (suc n) (place ∷ places) cs

abbrev pub pattern_lines : List PatternText → List (List ℕ)
pattern_lines ps = map (λ p. pattern_line p.levels p.letters) ps

abbrev pub exception_lines : List ExceptionText → List (List ℕ)
exception_lines es = map (λ e. hyphened 0 e.places e.letters) es

-- a group of patterns, and that another begins
abbrev pub group_lines : List PatternText → List (List ℕ)
group_lines [] = []
group_lines (p ∷ ps) = pattern_lines (p ∷ ps) ++ codes "NEXTLEVEL" ∷ []

abbrev pub list_lines : List PatternText → List PatternText → List ExceptionText → List (List ℕ)
list_lines joints patterns exceptions =
    group_lines joints ++ (pattern_lines patterns ++ exception_lines exceptions)

abbrev pub tex_lines : List PatternText → List ExceptionText → List (List ℕ)
tex_lines patterns exceptions =
    codes "\\patterns{" ∷ (pattern_lines patterns ++ (codes "}" ∷ codes "\\hyphenation{"
    ∷ (exception_lines exceptions ++ codes "}" ∷ [])))

-- a text of lines
abbrev pub text_of_lines : List (List ℕ) → List ℕ
text_of_lines [] = []
text_of_lines (line ∷ more) = encode_utf8_all line ++ 10 ∷ text_of_lines more
