-- Who may do what with a file.
use Rattle.std.specs.Prelude.{◌≡◌, ◌*◌, ◌+◌, ◌&&◌, ◌⊎◌, ℕ, Bool, true, false, not, if◌then◌else◌, ◌==◌}
use Rattle.std.specs.Prelude.{List, [], ◌∷◌}
use Rattle.std.specs.Int.Bits.{bit_and}
use Rattle.text_files.specs.declared.rights.Access.{Access}
use Rattle.text_files.specs.declared.rights.FileMode.{FileMode}
use Rattle.text_files.specs.declared.rights.Rights.{Rights}

-- what somebody may do who is the owner or not, and in the group or not
abbrev pub access_of : FileMode → Bool → Bool → Access
access_of mode true in_group = mode.owner
access_of mode false true = mode.group
access_of mode false false = mode.others

-- what a user of this number may do, who is in these groups
abbrev pub allowed : Rights → ℕ → (ℕ → Bool) → Access
allowed rights user groups =
    access_of rights.mode (user == rights.owner) (groups rights.group)

-- all that the one may do the other may do
abbrev pub IsWithin : Access → Access → Type 0
IsWithin one other =
    (one.read ≡ true → other.read ≡ true) × (one.write ≡ true → other.write ≡ true)
    × (one.execute ≡ true → other.execute ≡ true)

-- nobody may do more than before, but for one whom the file belongs to now and did not before; and it
-- runs as somebody else only if it did before, and belongs to the same owner and group
abbrev pub IsNoWider : Rights → Rights → Type 0
IsNoWider old new =
    ((user : ℕ) (groups : ℕ → Bool) → (user ≡ new.owner → user ≡ old.owner)
    → IsWithin (allowed new user groups) (allowed old user groups))
    × ((new.mode.set_user ≡ true ⊎ new.mode.set_group ≡ true)
    → (new.owner ≡ old.owner) × (new.group ≡ old.group)
    × (new.mode.set_user ≡ old.mode.set_user) × (new.mode.set_group ≡ old.mode.set_group))

-- what both of two classes may do
abbrev pub both : Access → Access → Access
both one other = record {
  read = one.read && other.read;
  write = one.write && other.write;
  execute = one.execute && other.execute;
}

-- with no special bit
abbrev without_special : Access → Access → Access → FileMode
without_special owner group others = record {
  set_user = false;
  set_group = false;
  sticky = false;
  owner = owner;
  group = group;
  others = others;
}

-- of another group: that and all others may do what both might
abbrev pub for_other_group : FileMode → FileMode
for_other_group mode =
    without_special mode.owner (both mode.group mode.others) (both mode.group mode.others)

-- of another owner: no other may do more than the owner might
abbrev pub for_other_owner : FileMode → FileMode
for_other_owner mode =
    without_special mode.owner (both mode.group mode.owner) (both mode.others mode.owner)

-- of the same owner or another, and of the same group or another
abbrev pub kept : FileMode → Bool → Bool → FileMode
kept mode true true = mode
kept mode true false = for_other_group mode
kept mode false true = for_other_owner mode
kept mode false false = for_other_owner (for_other_group mode)

-- the rights of a file that was made, and the owners and groups that the system refused to give it to
pub record Granted : Type 0 where
  pub rights : Rights
  pub refused_owners : List ℕ
  pub refused_groups : List ℕ

abbrev pub IsOneOf : List ℕ → ℕ → Type 0
IsOneOf [] number = ⊥
IsOneOf (one ∷ more) number = (number ≡ one) ⊎ IsOneOf more number

-- a number is the same, or that was refused
abbrev pub IsSameOrRefused : Bool → ℕ → ℕ → List ℕ → Type 0
IsSameOrRefused true old new refused = new ≡ old
IsSameOrRefused false old new refused = IsOneOf refused old

-- the owner and the group are the same, or the system refused that; and the mode is what may be kept of it
abbrev pub KeepsRights : Rights → Granted → Type 0
KeepsRights old new =
    (has_owner : Bool) × (has_group : Bool)
    × IsSameOrRefused has_owner old.owner new.rights.owner new.refused_owners
    × IsSameOrRefused has_group old.group new.rights.group new.refused_groups
    × (new.rights.mode ≡ kept old.mode has_owner has_group)

-- so a file keeps its rights as far as the system permits it, and nobody may do more with it
abbrev pub HasKeptRights : Rights → Granted → Type 0
HasKeptRights old new = KeepsRights old new × IsNoWider old new.rights

-- ---- modes as numbers

abbrev pub has : ℕ → ℕ → Bool
has number bit = not (bit_and number bit == 0)

abbrev pub mode_of : ℕ → FileMode
mode_of number = record {
  set_user = has number 2048;
  set_group = has number 1024;
  sticky = has number 512;
  owner = record { read = has number 256; write = has number 128; execute = has number 64 };
  group = record { read = has number 32; write = has number 16; execute = has number 8 };
  others = record { read = has number 4; write = has number 2; execute = has number 1 };
}

abbrev bit : Bool → ℕ
bit set = if set then 1 else 0

abbrev pub number_of_class : Access → ℕ
number_of_class class = 4 * bit class.read + 2 * bit class.write + bit class.execute

abbrev pub number_of : FileMode → ℕ
number_of mode =
    512 * (4 * bit mode.set_user + 2 * bit mode.set_group + bit mode.sticky)
    + 64 * number_of_class mode.owner + 8 * number_of_class mode.group + number_of_class mode.others
