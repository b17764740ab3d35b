-- Lemmas on texts that are written one after another.
use Rattle.std.proofs.Common.{◌≡◌, ◌∙◌, ℕ, ◌+◌, ◌<◌, ◌≤◌, List, [], ◌++◌, map, drop, get_or, Bor, Option}
use Rattle.std.proofs.Common.{append_assoc, ap, length, refl, subst, sym, Bool, Result, Ok, Err, IfErr}
use Rattle.std.proofs.{Common.OnOk, Common.OnErr, KnownBytes.Appends-nil, KnownBytes.Appends-trans}
use Rattle.std.proofs.lemmas.List.{at_drop_more, drop_all}
use Rattle.std.specs.{Io.KnownBytes.Appends, Result.is_ok}
use Rattle.text_filters.specs.{Messages.joined_texts, Program.Says, declared.faults.Reason.Reason}
use Rattle.textwrap_program.proofs.WriteLemmas.{Appends-whole, WritesPrefix-after, WritesPrefix-longer}
use Rattle.textwrap_program.{proofs.WriteLemmas.WrittenSoFar, specs.Filling.WritesPrefix}

abbrev pub joined : List (Bor (List ℕ)) → List ℕ
joined texts = joined_texts (map (λ text. text.now) texts)

-- what is written so far, and the texts that are left
abbrev pub IsWritten : Option (List ℕ) → Option (List ℕ) → List (Bor (List ℕ)) → ℕ → Type 0
IsWritten old new texts index = WrittenSoFar old new (joined (drop index texts)) (joined texts)

pub IsWritten-none : (old : Option (List ℕ)) (texts : List (Bor (List ℕ))) → IsWritten old old texts 0
IsWritten-none old texts = record { written = []; whole = refl; appends = Appends-nil old }

module _ (old mid new : Option (List ℕ)) (texts : List (Bor (List ℕ))) (index : ℕ)
    (default : Bor (List ℕ)) (within : index < length texts)
    (so_far : IsWritten old mid texts index) where
  abbrev pub text : List ℕ
  text = (get_or texts index default).now

  abbrev pub left : List ℕ
  left = joined (drop (index + 1) texts)

  -- the text that is next stands before those after it
  split : joined (drop index texts) ≡ text ++ left
  split = at_drop_more joined texts index default within

  whole : so_far.written ++ (text ++ left) ≡ joined texts
  whole = ap (λ rest. so_far.written ++ rest) (sym split) ∙ so_far.whole

  pub IsWritten-next : (bytes : List ℕ) → bytes ≡ text → Appends mid new bytes
      → IsWritten old new texts (index + 1)
  IsWritten-next bytes is appends = record {
    written = so_far.written ++ text;
    whole = append_assoc so_far.written text left ∙ whole;
    appends = Appends-trans old mid new so_far.written text so_far.appends
        (subst (Appends mid new) is appends);
  }

  pub IsWritten-prefix : (bytes : List ℕ) → bytes ≡ text → WritesPrefix mid new bytes
      → WritesPrefix old new (joined texts)
  IsWritten-prefix bytes is prefix =
      subst (WritesPrefix old new) whole
      (WritesPrefix-after old mid new so_far.written (text ++ left) so_far.appends
      (WritesPrefix-longer mid new text left (subst (WritesPrefix mid new) is prefix)))

pub IsWritten-all : (old new : Option (List ℕ)) (texts : List (Bor (List ℕ))) (index : ℕ)
    → length texts ≤ index → IsWritten old new texts index → Appends old new (joined texts)
IsWritten-all old new texts index past so_far =
    Appends-whole old new (joined (drop index texts)) (joined texts) so_far
    (ap joined (drop_all index texts past))

-- what a result of writing says
says-of : {A : Type 0} (messages : Reason → Type 0) (bytes : List ℕ) (old new : Option (List ℕ))
    (result : Result A Reason) → OnOk result (Appends old new bytes)
    → OnErr result (WritesPrefix old new bytes) → IfErr result messages
    → Says messages bytes old new (is_ok result)
says-of messages bytes old new (Ok value) appends prefix failed = appends
says-of messages bytes old new (Err reason) appends prefix failed = (prefix, (reason, failed))

pub says-result : {A : Type 0} (messages : Reason → Type 0) (text : List ℕ) (old new : Option (List ℕ))
    (result : Result A Reason) (said : Bool) → said ≡ is_ok result
    → OnOk result (Appends old new text) → OnErr result (WritesPrefix old new text)
    → IfErr result messages → Says messages text old new said
says-result messages text old new result said is appends prefix failed =
    subst (Says messages text old new) (sym is)
    (says-of messages text old new result appends prefix failed)
