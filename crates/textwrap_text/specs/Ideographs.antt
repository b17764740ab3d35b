-- Common ideographs, one after another.
use Rattle.std.specs.Prelude.{◌≡◌, ℕ, zero, suc, ◌+◌, ◌*◌, ◌≤◌, true, false, List, [], ◌∷◌, ◌++◌}
use Rattle.std.specs.Prelude.{drop, encode_utf8}
use Rattle.unicode.specs.declared.properties.LineBreak.TheVariants.{Ideographic}
use Rattle.textwrap_text.specs.declared.classes.Unit.{Unit}
use Rattle.textwrap_text.specs.Classes.{unit_of}

abbrev pub wide_ideograph : Unit
wide_ideograph = record { class = Ideographic; is_wide = true; is_unassigned_pictograph = false }

-- a wide ideograph to the rules, of three bytes
pub record IsCommonIdeograph (c : ℕ) : Type 0 where
  pub unit : unit_of c ≡ wide_ideograph
  pub from : 0x3000 ≤ c
  pub to : c ≤ 0x9FFF

-- such a one stands at a place of the text
pub record IsIdeographAt (text : List ℕ) (place : ℕ) : Type 0 where
  pub character : ℕ
  pub common : IsCommonIdeograph character
  pub stands : drop place text ≡ encode_utf8 character ++ drop (place + 3) text

-- the places of so many of them, of which the first stands at a place
abbrev pub ideograph_places : ℕ → ℕ → List ℕ
ideograph_places at zero = []
ideograph_places at (suc n) = ideograph_places at n ++ (at + 3 * n) ∷ []
