-- The statements of the laws, each under a name that a caller can cite.
use Rattle.std.specs.Prelude.{◌≡◌, ◌↔◌, ℕ, List, ◌∷◌, if◌then◌else◌}
use Rattle.textwrap_text.specs.Escapes.{next_of, shows, visible_in}
use Rattle.textwrap_text.specs.Units.{TextUnit, IsInUnits, IsNarrow, units}
use Rattle.textwrap_text.specs.declared.escapes.State.{State}

-- a text has one list of units, the computed one
abbrev pub UnitsAreUnique : Type 0
UnitsAreUnique = (cs : List ℕ) (us : List TextUnit) → IsInUnits cs us ↔ (us ≡ units cs)

-- the reader of a text shows its visible characters, one after another
abbrev pub ReaderShowsVisible : Type 0
ReaderShowsVisible = (state : State) (c : ℕ) (cs : List ℕ) → visible_in state (c ∷ cs)
    ≡ (if shows state c then c ∷ visible_in (next_of state c) cs else visible_in (next_of state c) cs)

-- no character takes more columns than its bytes
abbrev pub TextsAreNarrow : Type 0
TextsAreNarrow = (text : List ℕ) → IsNarrow text
