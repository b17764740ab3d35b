-- What is known of the files, by their names.
use Rattle.std.specs.Prelude.{◌≡◌, ◌≢◌, ◌⊎◌, ◌++◌, ◌∷◌, ℕ, List, [], Option, None, Some, ⊤, option_map}
use Rattle.text_files.specs.Rights.{Granted, HasKeptRights}
use Rattle.text_files.specs.declared.rights.FileMode.{FileMode}
use Rattle.text_files.specs.declared.rights.Rights.{Rights}

-- what stands at a name: nothing; a file with these bytes, which has these rights; a link to this name; a draft of
-- this run, whatever it holds; one of a run that is over, or that could not be removed; or something
-- else, such as a folder
pub data FolderEntry : Type 0 where
  Absent : FolderEntry
  File : List ℕ → Granted → FolderEntry
  Link : List ℕ → FolderEntry
  Draft : FolderEntry
  LeftOver : FolderEntry
  Other : FolderEntry

abbrev pub Folder : Type 0
Folder = List ℕ → FolderEntry

-- ---- what a name leads to

abbrev pub target_of : List ℕ → FolderEntry → List ℕ
target_of name (Link target) = target
target_of name _ = name

abbrev pub followed : Folder → List ℕ → List ℕ
followed folder name = target_of name (folder name)

abbrev pub bytes_of : FolderEntry → Option (List ℕ)
bytes_of (File bytes rights) = Some bytes
bytes_of _ = None

-- the bytes of the file that a name leads to, where these are known. Here and below a past is a list
-- of folders, of which the first is what stands at all names now; it is empty where that is not known
abbrev pub bytes_at : List Folder → List ℕ → Option (List ℕ)
bytes_at [] name = None
bytes_at (folder ∷ past) name = bytes_of (folder (followed folder name))

-- a name leads to the file of this name
abbrev pub LeadsTo : List Folder → List ℕ → List ℕ → Type 0
LeadsTo [] name place = ⊤
LeadsTo (folder ∷ past) name place =
    (place ≡ followed folder name)
    × ((bytes : List ℕ) × (granted : Granted) × (folder place ≡ File bytes granted))

-- the file of this name has these rights, if it has any
abbrev pub HasRights : List Folder → List ℕ → Option Rights → Type 0
HasRights [] place rights = ⊤
HasRights (folder ∷ past) place None = ⊤
HasRights (folder ∷ past) place (Some rights) =
    (bytes : List ℕ) × (granted : Granted) × (folder place ≡ File bytes granted)
    × (granted.rights ≡ rights)

-- ---- the steps

-- something else stands at one name, and all other names are as they were
abbrev pub Changes : List ℕ → FolderEntry → Folder → Folder → Type 0
Changes name entry old new =
    (new name ≡ entry) × ((other : List ℕ) → other ≢ name → new other ≡ old other)

-- a step is made from the folder as it was
abbrev pub FolderSteps : (Folder → Folder → Type 0) → List Folder → List Folder → Type 0
FolderSteps step [] new = new ≡ []
FolderSteps step (folder ∷ past) new =
    (next : Folder) × step folder next × (new ≡ next ∷ folder ∷ past)

-- a draft is made where nothing was
abbrev pub Makes : List ℕ → Folder → Folder → Type 0
Makes name old new = (old name ≡ Absent) × Changes name Draft old new

-- where the past is known, it is known that a new draft is empty, and what its rights are
abbrev pub IsEmptyDraft : List Folder → Option (List ℕ) → Option Granted → Type 0
IsEmptyDraft [] contents rights = ⊤
IsEmptyDraft (folder ∷ past) contents rights =
    (contents ≡ Some []) × ((given : Granted) × (rights ≡ Some given))

-- a draft that was left over is removed
abbrev pub RemovesLeftOver : Folder → Folder → Type 0
RemovesLeftOver old new = (name : List ℕ) × (old name ≡ LeftOver) × Changes name Absent old new

-- a draft with these contents and rights is put in the place of a file
abbrev pub Puts : List ℕ → List ℕ → Option (List ℕ) → Option Granted → Folder → Folder → Type 0
Puts name place (Some bytes) (Some rights) old new =
    (new place ≡ File bytes rights) × (new name ≡ Absent)
    × ((other : List ℕ) → other ≢ place → other ≢ name → new other ≡ old other)
Puts name place _ _ old new = ⊤

-- so it is if all of them are on the disk; else nothing is promised
abbrev pub PutsSynced : Option (List ℕ) → List ℕ → List ℕ → Option (List ℕ) → Option Granted
    → List Folder → List Folder → Type 0
PutsSynced synced name place contents rights old new =
    synced ≡ contents → FolderSteps (Puts name place contents rights) old new

-- ---- rights of a draft, where they are known

abbrev pub with_group : ℕ → Rights → Rights
with_group group rights = record { owner = rights.owner; group = group; mode = rights.mode }

abbrev pub with_owner : ℕ → Rights → Rights
with_owner owner rights = record { owner = owner; group = rights.group; mode = rights.mode }

abbrev pub with_mode : FileMode → Rights → Rights
with_mode mode rights = record { owner = rights.owner; group = rights.group; mode = mode }

-- other rights, with the same refused
abbrev pub granted_by : (Rights → Rights) → Granted → Granted
granted_by change old = record {
  rights = change old.rights;
  refused_owners = old.refused_owners;
  refused_groups = old.refused_groups;
}

abbrev pub given_group : ℕ → Option Granted → Option Granted
given_group group = option_map (granted_by (with_group group))

abbrev pub given_owner : ℕ → Option Granted → Option Granted
given_owner owner = option_map (granted_by (with_owner owner))

abbrev pub given_mode : FileMode → Option Granted → Option Granted
given_mode mode = option_map (granted_by (with_mode mode))

abbrev pub refused_group : ℕ → Option Granted → Option Granted
refused_group group = option_map (λ old. record {
  rights = old.rights;
  refused_owners = old.refused_owners;
  refused_groups = group ∷ old.refused_groups;
})

abbrev pub refused_owner : ℕ → Option Granted → Option Granted
refused_owner owner = option_map (λ old. record {
  rights = old.rights;
  refused_owners = owner ∷ old.refused_owners;
  refused_groups = old.refused_groups;
})

-- ---- what becomes of all files

-- nothing is there, but a draft that may be left over
abbrev pub IsGone : FolderEntry → Type 0
IsGone Absent = ⊤
IsGone LeftOver = ⊤
IsGone _ = ⊥

-- nothing is there but a draft
abbrev pub IsAside : FolderEntry → Type 0
IsAside Absent = ⊤
IsAside LeftOver = ⊤
IsAside Draft = ⊤
IsAside _ = ⊥

-- a name is as it was, or was and is such
abbrev pub SameBut : (FolderEntry → Type 0) → FolderEntry → FolderEntry → Type 0
SameBut Such old new = (new ≡ old) ⊎ (Such old × Such new)

-- all names are as they were, but for drafts that were left over before, or that could not be removed
abbrev pub IsFolderKept : Folder → Folder → Type 0
IsFolderKept old new = (name : List ℕ) → SameBut IsGone (old name) (new name)

-- all names are as they were, but for drafts
abbrev pub IsKeptAside : Folder → Folder → Type 0
IsKeptAside old new = (name : List ℕ) → SameBut IsAside (old name) (new name)

-- a file has these bytes now, and the rights that it may keep
abbrev pub HasNew : List ℕ → FolderEntry → FolderEntry → Type 0
HasNew bytes old new =
    (before : List ℕ) × (was : Granted) × (given : Granted)
    × (old ≡ File before was) × (new ≡ File bytes given) × HasKeptRights was.rights given

-- this file has these bytes now, and all other names are as they were, but for drafts as above
abbrev pub HasReplaced : List ℕ → List ℕ → Folder → Folder → Type 0
HasReplaced place bytes old new =
    HasNew bytes (old place) (new place)
    × ((other : List ℕ) → other ≢ place → SameBut IsGone (old other) (new other))

-- each name is as it was, but for drafts, or it is that of this file, which has these bytes
abbrev pub IsOldOrNew : List ℕ → List ℕ → Folder → Folder → Type 0
IsOldOrNew place bytes old new =
    (name : List ℕ) → SameBut IsAside (old name) (new name)
    ⊎ ((name ≡ place) × HasNew bytes (old name) (new name))

-- ---- pasts

abbrev pub Each : (Folder → Type 0) → List Folder → Type 0
Each Such [] = ⊤
Each Such (folder ∷ folders) = Such folder × Each Such folders

-- after each step since then the names stand so to how they were
abbrev pub Passes : (Folder → Folder → Type 0) → List Folder → List Folder → Type 0
Passes stop [] new = new ≡ []
Passes stop (folder ∷ past) new =
    (since : List Folder) × (new ≡ since ++ folder ∷ past) × Each (stop folder) since

-- and so they stand now
abbrev pub Ends : (Folder → Folder → Type 0) → List Folder → List Folder → Type 0
Ends end [] new = ⊤
Ends end (folder ∷ past) [] = ⊥
Ends end (folder ∷ past) (now ∷ before) = end folder now

-- all files are as they were, after each step and at the end
abbrev pub KeepsFiles : List Folder → List Folder → Type 0
KeepsFiles old new = Passes IsKeptAside old new × Ends IsFolderKept old new

-- this file is replaced by one with these bytes; after each step it was as it was or had these
abbrev pub ReplacesPlace : List ℕ → List ℕ → List Folder → List Folder → Type 0
ReplacesPlace place bytes old new =
    Passes (IsOldOrNew place bytes) old new × Ends (HasReplaced place bytes) old new

-- the file that a name leads to is replaced by one with these bytes
abbrev pub ReplacesFile : List ℕ → List ℕ → List Folder → List Folder → Type 0
ReplacesFile name bytes old new =
    (place : List ℕ) × LeadsTo old name place × ReplacesPlace place bytes old new

-- ---- how a draft comes there

-- a draft of this name is there, and beside that all names are as they were, but for drafts as above
abbrev pub IsDrafted : List ℕ → Folder → Folder → Type 0
IsDrafted draft old new =
    IsGone (old draft) × (new draft ≡ Draft)
    × ((other : List ℕ) → other ≢ draft → SameBut IsGone (old other) (new other))

-- a draft of this name was made, and after each step all files were as they had been
abbrev pub Drafts : List ℕ → List Folder → List Folder → Type 0
Drafts draft old new = Passes IsKeptAside old new × Ends (IsDrafted draft) old new

-- where the rights of a draft were known, they are what may be kept of these
abbrev pub IsGivenRights : Rights → Option Granted → Option Granted → Type 0
IsGivenRights rights None new = ⊤
IsGivenRights rights (Some old) None = ⊥
IsGivenRights rights (Some old) (Some given) = HasKeptRights rights given

-- a draft is put in the place of this file, which has these bytes now, and the rights that it may keep
abbrev pub PutsOver : List ℕ → List ℕ → List ℕ → Folder → Folder → Type 0
PutsOver draft place bytes old new =
    HasNew bytes (old place) (new place) × (new draft ≡ Absent)
    × ((other : List ℕ) → other ≢ place → other ≢ draft → new other ≡ old other)

-- so it is with one that was empty
abbrev pub PutsEmpty : Option (List ℕ) → Option Granted → List ℕ → List ℕ → List ℕ → Folder → Folder
    → Type 0
PutsEmpty (Some []) (Some rights) draft place bytes old new = PutsOver draft place bytes old new
PutsEmpty _ _ draft place bytes old new = ⊤
