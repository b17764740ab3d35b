-- Patterns that are read character by character, and places one after another.
use Rattle.std.proofs.Common.{Option, None, Some, List, ℕ, ◌≡◌, ◌∷◌, drop, true, false, refl}
use Rattle.textwrap_patterns.specs.Letters.{folded}
use Rattle.textwrap_patterns.specs.Written.{is_digit, letters_written, levels_written}

-- the levels that are still to come, where a digit was read
abbrev pub levels_left : Option ℕ → List ℕ → List ℕ
levels_left None cs = levels_written cs
levels_left (Some level) cs = level ∷ drop 1 (levels_written cs)

pub letters-digit : (c : ℕ) (cs : List ℕ) → is_digit c ≡ true
    → letters_written (c ∷ cs) ≡ letters_written cs
letters-digit c cs is = rw is refl

pub letters-letter : (c : ℕ) (cs : List ℕ) → is_digit c ≡ false
    → letters_written (c ∷ cs) ≡ folded c ∷ letters_written cs
letters-letter c cs is = rw is refl
