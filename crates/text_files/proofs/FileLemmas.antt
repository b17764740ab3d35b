-- How the files stand after steps.
use Rattle.std.proofs.Common.{◌≡◌, ◌≢◌, ◌∙◌, ◌⊎◌, ap, inl, inr, refl, subst, sym, ℕ, List, [], ◌∷◌, Bool, true, false}
use Rattle.std.proofs.Common.{Option, None, Some, Result, Ok, Err, IfOk, OnOk, OnErr}
use Rattle.std.proofs.lemmas.Bool.{false≢true}
use Rattle.std.proofs.lemmas.Slice.Eq.{bytes_eq-Decides}
use Rattle.std.specs.Io.KnownBytes.{Appends}
use Rattle.std.specs.Prelude.{⊤}
use Rattle.std.specs.Str.{bytes_eq}
use Rattle.text_files.specs.Files.{Absent, Changes, Draft, Drafts, Each, Ends, FolderEntry, File}
use Rattle.text_files.specs.Files.{Folder, HasNew, HasReplaced, HasRights, IsAside, IsDrafted}
use Rattle.text_files.specs.Files.{IsEmptyDraft, IsGone, IsFolderKept, IsKeptAside, IsGivenRights}
use Rattle.text_files.specs.Files.{IsOldOrNew, KeepsFiles, LeftOver, Link, Makes, Other, Passes}
use Rattle.text_files.specs.Files.{Puts, PutsEmpty, PutsOver, RemovesLeftOver, ReplacesPlace}
use Rattle.text_files.specs.Files.{SameBut, FolderSteps}
use Rattle.text_files.specs.Rights.{Granted, HasKeptRights, kept}
use Rattle.text_files.specs.declared.rights.Rights.{Rights}

-- ---- entries

gone-aside : (entry : FolderEntry) → IsGone entry → IsAside entry
gone-aside Absent gone = tt
gone-aside LeftOver gone = tt
gone-aside (File bytes rights) gone = absurd gone
gone-aside (Link target) gone = absurd gone
gone-aside Draft gone = absurd gone
gone-aside Other gone = absurd gone

same-aside : (old new : FolderEntry) → SameBut IsGone old new → SameBut IsAside old new
same-aside old new (inl same) = inl same
same-aside old new (inr (was, is)) = inr (gone-aside old was, gone-aside new is)

gone-before : (old new : FolderEntry) → SameBut IsGone old new → IsGone new → IsGone old
gone-before old new (inl same) gone = subst IsGone same gone
gone-before old new (inr (was, is)) gone = was

-- a name that was left alone
onward : (old mid new : FolderEntry) → SameBut IsGone old mid → new ≡ mid → SameBut IsGone old new
onward old mid new (inl first) same = inl (same ∙ first)
onward old mid new (inr (was, is)) same = inr (was, subst IsGone (sym same) is)

-- a file was one before
file-before : (old new : FolderEntry) (bytes : List ℕ) (rights : Granted) → SameBut IsGone old new
    → new ≡ File bytes rights → new ≡ old
file-before old new bytes rights (inl same) is = same
file-before old new bytes rights (inr (was, gone)) is = absurd (subst IsGone is gone)

same-name : (one other : List ℕ) → (one ≡ other) ⊎ (one ≢ other)
same-name one other = split (bytes_eq one other) refl
  where
    split : (b : Bool) → bytes_eq one other ≡ b → (one ≡ other) ⊎ (one ≢ other)
    split true is = inl ((bytes_eq-Decides one other).0 is)
    split false is = inr (λ same. false≢true (sym is ∙ (bytes_eq-Decides one other).1 same))

-- ---- pasts

-- one step more, where what was so far and what is now leads to what is then
goes_on : (stop stop' end end' step : Folder → Folder → Type 0) (old mid new : List Folder)
    → Passes stop old mid → Ends end old mid → FolderSteps step mid new
    → ((folder s : Folder) → stop folder s → stop' folder s)
    → ((folder now next : Folder) → end folder now → step now next
    → stop' folder next × end' folder next)
    → Passes stop' old new × Ends end' old new
goes_on stop stop' end end' step [] [] new passes ends steps wider next = (steps, tt)
goes_on stop stop' end end' step [] (now ∷ before) new passes ends steps wider next =
    let no : now ∷ before ≡ [] = passes in cc
goes_on stop stop' end end' step (folder ∷ past) [] new passes ends steps wider next = absurd ends
goes_on stop stop' end end' step (folder ∷ past) (now ∷ before) new (since, is, each) ends
    (after, made, follows) wider next =
    let (stops, ended) = next folder now after ends made in (
      (after ∷ since, follows ∙ ap (λ list. after ∷ list) is, (stops, widened since each)),
      subst (Ends end' (folder ∷ past)) (sym follows) ended,
    )
  where
    widened : (since : List Folder) → Each (stop folder) since → Each (stop' folder) since
    widened [] each = tt
    widened (s ∷ since) (this, rest) = (wider folder s this, widened since rest)

pub KeepsFiles-refl : (past : List Folder) → KeepsFiles past past
KeepsFiles-refl [] = (refl, tt)
KeepsFiles-refl (folder ∷ past) = (([], refl, tt), λ name. inl refl)

-- ---- drafts

-- a name of a draft changes, and all names are as they were before it, but for drafts
kept-changed : (folder now next : Folder) (draft : List ℕ) (entry : FolderEntry) → IsGone (folder draft)
    → ((other : List ℕ) → other ≢ draft → SameBut IsGone (folder other) (now other))
    → Changes draft entry now next → IsGone entry → IsFolderKept folder next
kept-changed folder now next draft entry gone kept (is, others) goes name =
    at (same-name name draft)
  where
    at : (name ≡ draft) ⊎ (name ≢ draft) → SameBut IsGone (folder name) (next name)
    at (inl same) = inr (
      subst (λ n. IsGone (folder n)) (sym same) gone,
      subst (λ n. IsGone (next n)) (sym same) (subst IsGone (sym is) goes),
    )
    at (inr differs) =
        onward (folder name) (now name) (next name) (kept name differs) (others name differs)

-- a draft that was left over is removed
pub KeepsFiles-removed : (old mid new : List Folder) → KeepsFiles old mid
    → FolderSteps RemovesLeftOver mid new → KeepsFiles old new
KeepsFiles-removed old mid new (passes, ends) steps =
    goes_on IsKeptAside IsKeptAside IsFolderKept IsFolderKept RemovesLeftOver old mid new passes ends steps
    (λ folder s kept. kept)
    (λ folder now next kept removes. let all = removed folder now next kept removes in
    (λ name. same-aside (folder name) (next name) (all name), all))
  where
    removed : (folder now next : Folder) → IsFolderKept folder now → RemovesLeftOver now next
        → IsFolderKept folder next
    removed folder now next kept (left, was, changes) =
        kept-changed folder now next left Absent
        (gone-before (folder left) (now left) (kept left) (subst IsGone (sym was) tt))
        (λ other differs. kept other) changes tt

-- unless it cannot be removed
pub KeepsFiles-tried : {A E : Type 0} (old mid now new : List Folder) (result : Result A E)
    → KeepsFiles old mid → now ≡ mid → OnOk result (FolderSteps RemovesLeftOver now new)
    → OnErr result (new ≡ now) → KeepsFiles old new
KeepsFiles-tried old mid now new (Ok value) kept same removed not_removed =
    KeepsFiles-removed old mid new kept (subst (λ past. FolderSteps RemovesLeftOver past new) same removed)
KeepsFiles-tried old mid now new (Err error) kept same removed not_removed =
    subst (KeepsFiles old) (sym (not_removed ∙ same)) kept

-- a draft is made
pub Drafts-made : (draft : List ℕ) (old mid new : List Folder) → KeepsFiles old mid
    → FolderSteps (Makes draft) mid new → Drafts draft old new
Drafts-made draft old mid new (passes, ends) steps =
    goes_on IsKeptAside IsKeptAside IsFolderKept (IsDrafted draft) (Makes draft) old mid new passes ends steps
    (λ folder s kept. kept)
    (λ folder now next kept makes. let made = drafted folder now next kept makes in
    (aside folder next made, made))
  where
    drafted : (folder now next : Folder) → IsFolderKept folder now → Makes draft now next
        → IsDrafted draft folder next
    drafted folder now next kept (was, (is, others)) = (
      gone-before (folder draft) (now draft) (kept draft) (subst IsGone (sym was) tt),
      is,
      λ other differs. onward (folder other) (now other) (next other) (kept other)
          (others other differs),
    )

    aside : (folder next : Folder) → IsDrafted draft folder next → IsKeptAside folder next
    aside folder next (gone, is, kept) name = at (same-name name draft)
      where
        at : (name ≡ draft) ⊎ (name ≢ draft) → SameBut IsAside (folder name) (next name)
        at (inl same) = inr (
          subst (λ n. IsAside (folder n)) (sym same) (gone-aside (folder draft) gone),
          subst (λ n. IsAside (next n)) (sym same) (subst IsAside (sym is) tt),
        )
        at (inr differs) = same-aside (folder name) (next name) (kept name differs)

-- unless it cannot be made
pub Drafts-tried : {A E : Type 0} (name_of : A → List ℕ) (old mid new : List Folder)
    (result : Result A E) → KeepsFiles old mid
    → IfOk result (λ draft. FolderSteps (Makes (name_of draft)) mid new)
    → IfOk result (λ draft. Drafts (name_of draft) old new)
Drafts-tried name_of old mid new (Ok draft) kept makes =
    Drafts-made (name_of draft) old mid new kept makes
Drafts-tried name_of old mid new (Err error) kept makes = makes

-- it is gone, or left over
pub KeepsFiles-after : (draft : List ℕ) (entry : FolderEntry) (old mid new : List Folder) → IsGone entry
    → Drafts draft old mid → FolderSteps (Changes draft entry) mid new → KeepsFiles old new
KeepsFiles-after draft entry old mid new goes (passes, ends) steps =
    goes_on IsKeptAside IsKeptAside (IsDrafted draft) IsFolderKept (Changes draft entry) old mid new passes
    ends steps
    (λ folder s kept. kept)
    (λ folder now next (gone, is, kept) changes.
    let all = kept-changed folder now next draft entry gone kept changes goes in
    (λ name. same-aside (folder name) (next name) (all name), all))

pub KeepsFiles-dropped : {A E : Type 0} (draft name : List ℕ) (old mid now new : List Folder)
    (result : Result A E) → Drafts draft old mid → name ≡ draft → now ≡ mid
    → OnOk result (FolderSteps (Changes name Absent) now new)
    → OnErr result (FolderSteps (Changes name LeftOver) now new) → KeepsFiles old new
KeepsFiles-dropped draft name old mid now new (Ok value) drafts named same removed left =
    KeepsFiles-after draft Absent old mid new tt drafts
    (subst (λ past. FolderSteps (Changes draft Absent) past new) same
    (subst (λ n. FolderSteps (Changes n Absent) now new) named removed))
KeepsFiles-dropped draft name old mid now new (Err error) drafts named same removed left =
    KeepsFiles-after draft LeftOver old mid new tt drafts
    (subst (λ past. FolderSteps (Changes draft LeftOver) past new) same
    (subst (λ n. FolderSteps (Changes n LeftOver) now new) named left))

-- ---- a draft is put in the place of a file

pub PutsEmpty-put : (old new : List Folder) (empty contents : Option (List ℕ)) (own given : Option Granted)
    (rights : Rights) (draft place bytes : List ℕ) → Appends empty contents bytes
    → IsGivenRights rights own given → HasRights old place (Some rights)
    → FolderSteps (Puts draft place contents given) old new
    → FolderSteps (PutsEmpty empty own draft place bytes) old new
PutsEmpty-put [] new empty contents own given rights draft place bytes appends no_wider has steps = steps
PutsEmpty-put (folder ∷ past) new empty contents own given rights draft place bytes appends no_wider
    (before, granted, was, same) (next, puts, follows) =
    (next, over empty contents own given appends no_wider puts, follows)
  where
    over : (empty contents : Option (List ℕ)) (own given : Option Granted) → Appends empty contents bytes
        → IsGivenRights rights own given → Puts draft place contents given folder next
        → PutsEmpty empty own draft place bytes folder next
    over None contents own given appends no_wider puts = tt
    over (Some (c ∷ cs)) contents own given appends no_wider puts = tt
    over (Some []) contents None given appends no_wider puts = tt
    over (Some []) None (Some own) given appends no_wider puts = absurd appends
    over (Some []) (Some written) (Some own) None appends no_wider puts = absurd no_wider
    over (Some []) (Some written) (Some own) (Some given) appends no_wider (is, gone, others) = (
      (
        before,
        granted,
        given,
        was,
        is ∙ ap (λ bytes. File bytes given) appends,
        subst (λ rights. HasKeptRights rights given) (sym same) no_wider,
      ),
      gone,
      others,
    )

PutsOver-puts : (old mid new : List Folder) (stop : Folder → Folder → Type 0)
    (contents : Option (List ℕ)) (own : Option Granted) (draft place bytes : List ℕ)
    → Passes stop old mid → IsEmptyDraft old contents own
    → FolderSteps (PutsEmpty contents own draft place bytes) mid new
    → FolderSteps (PutsOver draft place bytes) mid new
PutsOver-puts [] [] new stop contents own draft place bytes passes empty steps = steps
PutsOver-puts [] (now ∷ before) new stop contents own draft place bytes passes empty steps =
    let no : now ∷ before ≡ [] = passes in cc
PutsOver-puts (folder ∷ past) mid new stop contents own draft place bytes passes
    (no_bytes, (given, known)) steps =
    subst (λ r. FolderSteps (PutsEmpty (Some []) r draft place bytes) mid new) known
    (subst (λ c. FolderSteps (PutsEmpty c own draft place bytes) mid new) no_bytes steps)

pub ReplacesPlace-put : (old mid new : List Folder) (contents : Option (List ℕ)) (own : Option Granted)
    (draft place bytes : List ℕ) → Drafts draft old mid → IsEmptyDraft old contents own
    → FolderSteps (PutsEmpty contents own draft place bytes) mid new → ReplacesPlace place bytes old new
ReplacesPlace-put old mid new contents own draft place bytes (passes, ends) empty steps =
    goes_on IsKeptAside (IsOldOrNew place bytes) (IsDrafted draft) (HasReplaced place bytes)
    (PutsOver draft place bytes) old mid new passes ends
    (PutsOver-puts old mid new IsKeptAside contents own draft place bytes passes empty steps)
    (λ folder s kept name. inl (kept name))
    (λ folder now next drafted over. let ended = replaced folder now next drafted over in
    (old_or_new folder next ended, ended))
  where
    replaced : (folder now next : Folder) → IsDrafted draft folder now
        → PutsOver draft place bytes now next → HasReplaced place bytes folder next
    replaced folder now next (gone, is, kept) ((before, rights, given, was, has, no_wider), absent, others) =
        let apart : place ≢ draft = λ same. subst IsFile (sym was ∙ ap now same ∙ is) tt in
        let same = file-before (folder place) (now place) before rights (kept place apart) was in (
          (before, rights, given, sym same ∙ was, has, no_wider),
          λ other differs. at other differs (same-name other draft),
        )
      where
        IsFile : FolderEntry → Type 0
        IsFile (File bytes rights) = ⊤
        IsFile _ = ⊥

        at : (other : List ℕ) → other ≢ place → (other ≡ draft) ⊎ (other ≢ draft)
            → SameBut IsGone (folder other) (next other)
        at other differs (inl same) = inr (
          subst (λ n. IsGone (folder n)) (sym same) gone,
          subst (λ n. IsGone (next n)) (sym same) (subst IsGone (sym absent) tt),
        )
        at other differs (inr apart) =
            onward (folder other) (now other) (next other) (kept other apart) (others other differs apart)

    old_or_new : (folder next : Folder) → HasReplaced place bytes folder next
        → IsOldOrNew place bytes folder next
    old_or_new folder next (has, kept) name = at (same-name name place)
      where
        at : (name ≡ place) ⊎ (name ≢ place) → SameBut IsAside (folder name) (next name)
            ⊎ ((name ≡ place) × HasNew bytes (folder name) (next name))
        at (inl same) =
            inr (same, subst (λ n. HasNew bytes (folder n) (next n)) (sym same) has)
        at (inr differs) = inl (same-aside (folder name) (next name) (kept name differs))
