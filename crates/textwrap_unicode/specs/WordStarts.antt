-- Where words begin among letters, blanks and signs such as commas.
use Rattle.std.specs.Prelude.{◌≡◌, ℕ, zero, suc, ◌+◌, ◌<◌, Bool, false, ◌&&◌, ◌⊎◌}
use Rattle.std.specs.Prelude.{List, [], ◌∷◌, ◌++◌, if◌then◌else◌, slice_index}
use Rattle.unicode.specs.declared.properties.LineBreak.{LineBreak}
use Rattle.unicode.specs.declared.properties.LineBreak.TheVariants.{Alphabetic, InfixNumeric, Space}
use Rattle.textwrap_text.specs.declared.classes.Unit.{Unit}
use Rattle.textwrap_text.specs.ClassSets.{is_infix, is_letter, is_space}
use Rattle.textwrap_text.specs.Classes.{class_of}

abbrev pub plain_letter : Unit
plain_letter = record { class = Alphabetic; is_wide = false; is_unassigned_pictograph = false }

-- a character of ASCII that is AL
pub record IsPlainLetter (c : ℕ) : Type 0 where
  pub ascii : c < 128
  pub class : class_of c ≡ Alphabetic

-- AL, SP or IS
abbrev pub IsWordClass : LineBreak → Type 0
IsWordClass class = (class ≡ Alphabetic) ⊎ ((class ≡ Space) ⊎ (class ≡ InfixNumeric))

-- a character of ASCII of one of these classes
pub record IsWordByte (c : ℕ) : Type 0 where
  pub ascii : c < 128
  pub class : IsWordClass (class_of c)

-- a blank stands before the place behind so many bytes
abbrev pub is_behind_blank : List ℕ → ℕ → Bool
is_behind_blank bytes zero = false
is_behind_blank bytes (suc n) = is_space (class_of (slice_index bytes n))

-- a sign stands there, or before the blanks there
abbrev pub is_behind_sign : List ℕ → ℕ → Bool
is_behind_sign bytes zero = false
is_behind_sign bytes (suc n) =
    let class = class_of (slice_index bytes n) in
    if is_space class then is_behind_sign bytes n else is_infix class

-- the places behind blanks where a letter comes, among the first so many bytes of those from a place
-- on
abbrev pub word_starts : ℕ → List ℕ → ℕ → List ℕ
word_starts at bytes zero = []
word_starts at bytes (suc n) = word_starts at bytes n
    ++ (if is_behind_blank bytes n && is_letter (class_of (slice_index bytes n)) then (at + n) ∷ []
    else [])
