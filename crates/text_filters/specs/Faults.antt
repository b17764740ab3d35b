-- Why an input was not treated.
use Rattle.std.specs.Prelude.{⊤}
use Rattle.std.specs.declared.io.ErrorKind.{ErrorKind}
use Rattle.std.specs.declared.io.ErrorKind.TheVariants as kind
use Rattle.text_filters.specs.declared.faults.Fault.{Fault}
use Rattle.text_filters.specs.declared.faults.Fault.TheVariants.{Memory, Output, Read, Write}
use Rattle.text_filters.specs.declared.faults.Reason.{Reason}
use Rattle.text_filters.specs.declared.faults.Reason.TheVariants.{NotFound, NotPermitted, IsFolder}
use Rattle.text_filters.specs.declared.faults.Reason.TheVariants.{ReadOnly, IsPipe, IsDevice, TooLong}
use Rattle.text_filters.specs.declared.faults.Reason.TheVariants.{Busy, TooManyDrafts, NoSpace, Closed}
use Rattle.text_filters.specs.declared.faults.Reason.TheVariants.{Other}
use Rattle.text_files.specs.declared.files.FileKind.{FileKind}
use Rattle.text_files.specs.declared.files.FileKind.TheVariants.{Regular, Folder, Pipe, Device}

abbrev pub file_reason : ErrorKind → Reason
file_reason kind.NotFound = NotFound
file_reason kind.PermissionDenied = NotPermitted
file_reason kind.ReadOnlyFilesystem = ReadOnly
file_reason kind.IsADirectory = IsFolder
file_reason kind.InvalidFilename = TooLong
file_reason kind.ResourceBusy = Busy
file_reason kind.ExecutableFileBusy = Busy
file_reason kind.AlreadyExists = TooManyDrafts
file_reason kind.StorageFull = NoSpace
file_reason kind.QuotaExceeded = NoSpace
file_reason _ = Other

-- of what is no regular file
abbrev pub kind_reason : FileKind → Reason
kind_reason Folder = IsFolder
kind_reason Pipe = IsPipe
kind_reason Device = IsDevice
kind_reason Regular = Other

abbrev pub output_reason : ErrorKind → Reason
output_reason kind.BrokenPipe = Closed
output_reason kind.StorageFull = NoSpace
output_reason kind.QuotaExceeded = NoSpace
output_reason _ = Other

abbrev pub opening_fault : ErrorKind → Fault
opening_fault kind.OutOfMemory = Memory
opening_fault kind = Read (file_reason kind)

abbrev pub draft_fault : ErrorKind → Fault
draft_fault kind.OutOfMemory = Memory
draft_fault kind = Write (file_reason kind)

-- the faults of one step: reading and writing the output, for these reasons, and replacing a file
abbrev pub IsOfReading : (Reason → Type 0) → Fault → Type 0
IsOfReading reader (Read reason) = reader reason
IsOfReading reader Memory = ⊤
IsOfReading reader _ = ⊥

abbrev pub IsOfOutput : (Reason → Type 0) → Fault → Type 0
IsOfOutput output (Output reason) = output reason
IsOfOutput output _ = ⊥

abbrev pub IsOfDraft : Fault → Type 0
IsOfDraft (Write reason) = ⊤
IsOfDraft Memory = ⊤
IsOfDraft _ = ⊥
