-- Lemmas on what a writer took.
use Rattle.std.proofs.Common.{Err, List, OnOk, [], drop, subst, sym, take, ℕ, ◌++◌, ◌≡◌}
use Rattle.std.proofs.Common.{Ok, OnErr, Option, Result, append-nil, append_assoc, take-append-drop}
use Rattle.std.proofs.KnownBytes.{Appends-kept, Appends-trans}
use Rattle.std.specs.Io.KnownBytes.{Appends, Keeps}
use Rattle.textwrap_program.specs.Filling.{WritesPrefix}

-- what is written so far, and the rest, are the bytes
pub record WrittenSoFar (old new : Option (List ℕ)) (rest bytes : List ℕ) : Type 0 where
  pub written : List ℕ
  pub whole : written ++ rest ≡ bytes
  pub appends : Appends old new written

pub WrittenSoFar-more : (old mid new : Option (List ℕ)) (rest bytes : List ℕ) (count : ℕ)
    → WrittenSoFar old mid rest bytes → Appends mid new (take count rest)
    → WrittenSoFar old new (drop count rest) bytes
WrittenSoFar-more old mid new rest bytes count so_far more = record {
  written = so_far.written ++ take count rest;
  whole = rw (append_assoc, take-append-drop count rest) so_far.whole;
  appends = Appends-trans old mid new so_far.written (take count rest) so_far.appends more;
}

pub WritesPrefix-nothing_more : (old mid new : Option (List ℕ)) (rest bytes : List ℕ)
    → WrittenSoFar old mid rest bytes → Appends mid new [] → WritesPrefix old new bytes
WritesPrefix-nothing_more old mid new rest bytes so_far nothing =
    let all = Appends-trans old mid new so_far.written [] so_far.appends nothing in
    (so_far.written, rest, so_far.whole, subst (Appends old new) (append-nil so_far.written) all)

pub WritesPrefix-kept : (old mid new : Option (List ℕ)) (rest bytes : List ℕ)
    → WrittenSoFar old mid rest bytes → Keeps mid new → WritesPrefix old new bytes
WritesPrefix-kept old mid new rest bytes so_far kept =
    let all = Appends-kept old mid new so_far.written so_far.appends kept in
    (so_far.written, rest, so_far.whole, all)

-- where nothing is left, all is written
pub Appends-whole : (old new : Option (List ℕ)) (rest bytes : List ℕ)
    → WrittenSoFar old new rest bytes → rest ≡ [] → Appends old new bytes
Appends-whole old new rest bytes so_far none =
    subst (Appends old new) (rw (none, append-nil) at so_far.whole) so_far.appends

-- a prefix of a line is one of the line and what follows it
pub WritesPrefix-longer : (old new : Option (List ℕ)) (bytes more : List ℕ)
    → WritesPrefix old new bytes → WritesPrefix old new (bytes ++ more)
WritesPrefix-longer old new bytes more (written, rest, whole, appends) =
    (written, rest ++ more, rw whole at (sym (append_assoc written rest more)), appends)

pub OnErr-from : {A E P : Type 0} (result : Result A E) → P → OnErr result P
OnErr-from (Ok value) p = tt
OnErr-from (Err error) p = p

-- what was written to the end, or to a fault, is one
pub WritesPrefix-result : {A E : Type 0} (old new : Option (List ℕ)) (bytes : List ℕ)
    (result : Result A E) → OnOk result (Appends old new bytes)
    → OnErr result (WritesPrefix old new bytes) → WritesPrefix old new bytes
WritesPrefix-result old new bytes (Ok value) appends prefix = (bytes, [], append-nil bytes, appends)
WritesPrefix-result old new bytes (Err error) appends prefix = prefix

-- and one of what follows a line that was written goes on from it
pub WritesPrefix-after : (old mid new : Option (List ℕ)) (bytes more : List ℕ)
    → Appends old mid bytes → WritesPrefix mid new more → WritesPrefix old new (bytes ++ more)
WritesPrefix-after old mid new bytes more first (written, rest, whole, appends) =
    let all = Appends-trans old mid new bytes written first appends in
    (bytes ++ written, rest, rw whole at (append_assoc bytes written rest), all)
