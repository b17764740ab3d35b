-- What the planted bugs of this crate do, on a row where it matters, and that the clause does not allow
-- it. Each theorem has the name of its edit in must-fail/.
use Rattle.text_files.specs.Files.{Absent, FolderEntry, File, Folder, PutsOver, PutsSynced, FolderSteps}
use Rattle.text_files.specs.Rights.{Granted, HasKeptRights, IsNoWider, kept, mode_of}
use Rattle.text_files.specs.declared.rights.Rights.{Rights}
use Rattle.text_filters.specs.{Streams.{IsPossible, NoReason}, declared.faults.Fault.TheVariants.Output}
use Rattle.text_filters.specs.declared.faults.Reason.{Reason, TheVariants.NoSpace}
use Rattle.textwrap_text.proofs.Common.{◌≡◌, [], ◌∷◌, ap, Bool, false, true, inl, refl, subst, sym}
use Rattle.textwrap_text.proofs.Common.{List, ℕ, Some, false≢true, ⊤}

-- a program that runs as the super-user
abbrev of_root : Rights
of_root = record { owner = 0; group = 0; mode = mode_of 2541 }

-- the same bits, of somebody else
abbrev of_another : Rights
of_another = record { owner = 1234; group = 1234; mode = mode_of 2541 }

pub mode_kept_for_another_owner : ¬ IsNoWider of_root of_another
mode_kept_for_another_owner (classes, special) =
    let (owner, group, user_bit, group_bit) = special (inl refl) in
    let no : 1234 ≡ 0 = owner in cc

-- the same owner, and nobody may do anything any more
abbrev of_nobody : Rights
of_nobody = record { owner = 0; group = 0; mode = mode_of 0 }

-- for whatever is kept of a mode, its owner may do what he might
pub nothing_allowed_afterwards : (owners groups : List ℕ)
    → ¬ HasKeptRights of_root
    (record { rights = of_nobody; refused_owners = owners; refused_groups = groups })
nothing_allowed_afterwards owners groups ((has_owner, has_group, owner, group, is), wider) =
    unlike has_owner has_group is
  where
    unlike : (has_owner has_group : Bool)
        → of_nobody.mode ≡ kept of_root.mode has_owner has_group → ⊥
    unlike true true is = false≢true (ap (λ mode. mode.owner.read) is)
    unlike true false is = false≢true (ap (λ mode. mode.owner.read) is)
    unlike false true is = false≢true (ap (λ mode. mode.owner.read) is)
    unlike false false is = false≢true (ap (λ mode. mode.owner.read) is)

-- whose group and owner the system was not asked for
abbrev not_asked : Granted
not_asked = record {
  rights = record { owner = 1234; group = 1234; mode = kept of_root.mode false false };
  refused_owners = [];
  refused_groups = [];
}

pub owner_is_not_asked_for : ¬ HasKeptRights of_root not_asked
owner_is_not_asked_for ((true, has_group, owner, group, is), wider) =
    let no : 1234 ≡ 0 = owner in cc
owner_is_not_asked_for ((false, has_group, owner, group, is), wider) = absurd owner

-- an output that takes all and cannot fail, and a fault is told
pub written_output_told_as_a_fault : (reader : Reason → Type 0)
    → ¬ IsPossible reader NoReason (Output NoSpace)
written_output_told_as_a_fault reader possible = possible

-- nothing at all
abbrev empty : Folder
empty name = Absent

-- of a draft that is not on the disk nothing is promised, so also that nothing comes of it
pub synced_before_it_is_written : (rights : Granted)
    → PutsSynced (Some []) [] (47 ∷ []) (Some (10 ∷ [])) (Some rights) (empty ∷ []) (empty ∷ empty ∷ [])
    × (¬ FolderSteps (PutsOver [] (47 ∷ []) (10 ∷ [])) (empty ∷ []) (empty ∷ empty ∷ []))
synced_before_it_is_written rights = (λ same. absurd (unlike [] same), λ (next, over, follows). not_put next over)
  where
    unlike : (bytes : List ℕ) → Some [] ≡ Some (10 ∷ bytes) → ⊥
    unlike bytes same = cc

    IsFile : FolderEntry → Type 0
    IsFile (File bytes rights) = ⊤
    IsFile _ = ⊥

    not_put : (next : Folder) → PutsOver [] (47 ∷ []) (10 ∷ []) empty next → ⊥
    not_put next ((before, rights, given, was, is, wider), gone, kept) = subst IsFile (sym was) tt
