-- Which faults the streams of a run may have.
use Rattle.std.specs.Prelude.{◌≡◌, ⊤}
use Rattle.std.specs.declared.io.ErrorKind.{ErrorKind}
use Rattle.text_filters.specs.{Faults.output_reason, declared.faults.Fault.Fault}
use Rattle.text_filters.specs.declared.faults.Fault.TheVariants.{Output, Read}
use Rattle.text_filters.specs.declared.faults.Reason.{Reason, TheVariants.Other}

-- for which reasons the reader of a run may fail, its output and its messages
pub record StreamFaults : Type 1 where
  pub reader : Reason → Type 0
  pub output : Reason → Type 0
  pub messages : Reason → Type 0

abbrev pub faults_of : (Reason → Type 0) → (Reason → Type 0) → (Reason → Type 0) → StreamFaults
faults_of reader output messages = record { reader = reader; output = output; messages = messages }

-- there is a reason for which a stream may fail
abbrev pub MayFail : (Reason → Type 0) → Type 0
MayFail faults = (reason : Reason) × faults reason

abbrev pub AnyReason : Reason → Type 0
AnyReason reason = ⊤

abbrev pub NoReason : Reason → Type 0
NoReason reason = ⊥

-- a fault of the input or of the output is one that it may have
abbrev pub IsPossible : (Reason → Type 0) → (Reason → Type 0) → Fault → Type 0
IsPossible reader output (Read reason) = reader reason
IsPossible reader output (Output reason) = output reason
IsPossible reader output _ = ⊤

-- ---- the streams of the system

-- a read fails for a reason that is not told further
abbrev pub ReadFaults : Reason → Type 0
ReadFaults reason = reason ≡ Other

-- a write fails for the reason of its error
abbrev pub WriteFaults : Reason → Type 0
WriteFaults reason = (kind : ErrorKind) × (reason ≡ output_reason kind)
