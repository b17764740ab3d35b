-- Lemmas on what becomes of one input: whether its output is another text, and what is written of it.
use Rattle.std.{proofs.lemmas.Slice.Eq.bytes_eq-Decides, specs.Str.bytes_eq}
use Rattle.text_files.{proofs.FileLemmas.KeepsFiles-refl, specs.Files.{Folder, KeepsFiles, bytes_at}}
use Rattle.text_filters.specs.{Faults.IsOfOutput, Filter.Work, Inputs.{Checks, Differs, Prints}}
use Rattle.text_filters.specs.{Inputs.{Reads, ReadsText, Replaces}, declared.faults.Fault.Fault}
use Rattle.text_filters.specs.declared.faults.Fault.TheVariants.{Read, NotUtf8, Memory, Write, Output}
use Rattle.text_filters.specs.declared.faults.Reason.{Reason}
use Rattle.textwrap_program.specs.{Filling.{ReadsAll, WritesPrefix}, Program.TriesLine}
use Rattle.textwrap_text.proofs.Common.{◌≡◌, ◌≢◌, ◌∙◌, sym, subst, true, false, ℕ, List, Bool, Option}
use Rattle.textwrap_text.proofs.Common.{Err, false≢true}
use Rattle.text_files.specs.Differences.{IsDiffText}

-- ---- two texts that were compared

pub compared-same : (xs ys input output : List ℕ) → xs ≡ input → ys ≡ output
    → true ≡ bytes_eq xs ys → output ≡ input
compared-same xs ys input output x y equal =
    sym y ∙ sym ((bytes_eq-Decides xs ys).0 (sym equal)) ∙ x

pub compared-other : (xs ys input output : List ℕ) → xs ≡ input → ys ≡ output
    → false ≡ bytes_eq xs ys → output ≢ input
compared-other xs ys input output x y differ same =
    false≢true (differ ∙ (bytes_eq-Decides xs ys).1 (x ∙ sym same ∙ sym y))

-- the diff of two texts is that of the same texts
pub IsDiffText-of : (name input output old new text : List ℕ) → old ≡ input → new ≡ output
    → IsDiffText name old new text → IsDiffText name input output text
IsDiffText-of name input output old new text x y is =
    subst (λ t. IsDiffText name input t text) y (subst (λ t. IsDiffText name t new text) x is)

-- ---- faults

module _ (work : Work) (unread left : Option (List ℕ)) where
  module _ (input output : List ℕ) (reads : ReadsText work unread left input output)
      (faults : Reason → Type 0) where
    -- an output of which a prefix is written
    pub prints-unwritten : (old new : Option (List ℕ)) (bytes : List ℕ) (fault : Fault)
        → bytes ≡ output → WritesPrefix old new bytes → IsOfOutput faults fault
        → Prints work unread left old new (Err fault)
    prints-unwritten old new bytes (Output reason) is prefix of =
        (input, output, reads, subst (WritesPrefix old new) is prefix)
    prints-unwritten old new bytes (Read reason) is prefix of = absurd of
    prints-unwritten old new bytes (Write reason) is prefix of = absurd of
    prints-unwritten old new bytes (NotUtf8 valid) is prefix of = absurd of
    prints-unwritten old new bytes Memory is prefix of = absurd of

    -- the name of a file that would change, of which a prefix is written
    pub checks-unwritten : (name : List ℕ) (old new : Option (List ℕ)) (fault : Fault)
        → output ≢ input → TriesLine old new name → IsOfOutput faults fault
        → Checks work name unread left old new (Err fault)
    checks-unwritten name old new (Output reason) differs tries of =
        (input, output, reads, differs, tries)
    checks-unwritten name old new (Read reason) differs tries of = absurd of
    checks-unwritten name old new (Write reason) differs tries of = absurd of
    checks-unwritten name old new (NotUtf8 valid) differs tries of = absurd of
    checks-unwritten name old new Memory differs tries of = absurd of

    -- a diff of which a prefix is written
    pub differs-unwritten : (counts : Bool) (name text : List ℕ) (old new : Option (List ℕ))
        (fault : Fault) → output ≢ input → IsDiffText name input output text
        → WritesPrefix old new text → IsOfOutput faults fault
        → Differs work counts name unread left old new (Err fault)
    differs-unwritten counts name text old new (Output reason) differ is prefix of =
        (input, output, text, reads, differ, is, prefix)
    differs-unwritten counts name text old new (Read reason) differ is prefix of = absurd of
    differs-unwritten counts name text old new (Write reason) differ is prefix of = absurd of
    differs-unwritten counts name text old new (NotUtf8 valid) differ is prefix of = absurd of
    differs-unwritten counts name text old new Memory differ is prefix of = absurd of

-- nor one that is not read
pub replaces-unread : (work : Work) (name : List ℕ) (old new : List Folder)
    (unread left : Option (List ℕ)) (fault : Fault) → unread ≡ bytes_at old name → new ≡ old
    → Reads work unread left (Err fault) → Replaces work name old new (Err fault)
replaces-unread work name old new unread left (Read reason) known same none = same
replaces-unread work name old new unread left (NotUtf8 valid) known same (input, all, none) =
    ((left, (input, subst (λ u. ReadsAll u left input) known all, none)), same)
replaces-unread work name old new unread left Memory known same none =
    subst (KeepsFiles old) (sym same) (KeepsFiles-refl old)
replaces-unread work name old new unread left (Write reason) known same none = absurd none
replaces-unread work name old new unread left (Output reason) known same none = absurd none

-- ---- files

-- what was read of the reader of a file was read of the file
pub ReadsText-of : (work : Work) (unread known left : Option (List ℕ))
    (input output : List ℕ) → unread ≡ known → ReadsText work unread left input output
    → ReadsText work known left input output
ReadsText-of work unread known left input output =
    subst (λ bytes. ReadsText work bytes left input output)
