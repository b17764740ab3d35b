-- Worked rows: what it means that a file is replaced, and what that excludes.
use Rattle.std.proofs.Common.{◌≡◌, ◌⊎◌, ◌++◌, [], ◌∷◌, inl, inr, subst, sym, List, ℕ}
use Rattle.std.specs.Prelude.{⊤, bytes_eq, codes, if◌then◌else◌}
use Rattle.text_files.specs.Files.{Absent, Each, FolderEntry, File, Folder, HasNew, IsAside}
use Rattle.text_files.specs.Files.{IsOldOrNew, ReplacesFile, SameBut}
use Rattle.text_files.specs.Rights.{Granted, mode_of}

-- "f", and whose it is
abbrev name : List ℕ
name = codes "f"

abbrev rights : Granted
rights = record {
  rights = record { owner = 1000; group = 1000; mode = mode_of 420 };
  refused_owners = [];
  refused_groups = [];
}

-- a folder with this file alone, and one with none
abbrev with_file : List ℕ → Folder
with_file bytes at = if bytes_eq at name then File bytes rights else Absent

abbrev empty : Folder
empty at = Absent

abbrev IsFile : FolderEntry → Type 0
IsFile (File _ _) = ⊤
IsFile _ = ⊥

-- that it is removed, and then written anew, is not what it means
pub a_file_is_never_gone : (bytes : List ℕ)
    → ¬ ReplacesFile name bytes (with_file (codes "old") ∷ [])
    (with_file bytes ∷ empty ∷ with_file (codes "old") ∷ [])
a_file_is_never_gone bytes (place, leads, ((since, is, each), ends)) =
    gone (subst (λ at. IsOldOrNew at bytes old empty) leads.0 (between since is each))
  where
    old : Folder
    old = with_file (codes "old")

    between : (since : List Folder) → with_file bytes ∷ empty ∷ old ∷ [] ≡ since ++ old ∷ []
        → Each (IsOldOrNew place bytes old) since → IsOldOrNew place bytes old empty
    between [] is each = let no : empty ∷ old ∷ [] ≡ [] = cc in cc
    between (a ∷ []) is each = let no : old ∷ [] ≡ [] = cc in cc
    between (a ∷ b ∷ []) is (first, (second, none)) =
        let same : b ≡ empty = cc in subst (IsOldOrNew place bytes old) same second
    between (a ∷ b ∷ c ∷ []) is each = let no : [] ≡ old ∷ [] = cc in cc
    between (a ∷ b ∷ c ∷ d ∷ since) is each = let no : [] ≡ d ∷ since ++ old ∷ [] = cc in cc

    gone : IsOldOrNew name bytes old empty → ⊥
    gone stands = at (stands name)
      where
        at : SameBut IsAside (old name) Absent ⊎ ((name ≡ name) × HasNew bytes (old name) Absent) → ⊥
        at (inl (inl same)) = subst IsFile (sym same) tt
        at (inl (inr (was, is))) = was
        at (inr (here, (before, given, kept, was, is, wider))) = subst IsFile (sym is) tt
