-- Lemmas on the steps of a run.
use Rattle.std.proofs.Common.{ℕ, List, Option, None, Some}
use Rattle.textwrap_words.specs.WrapAlgorithms.{Algorithm}
use Rattle.textwrap_program.specs.Filling.{ReadsAll, FillsTo, Runs}
use Rattle.textwrap_program.specs.declared.filling.RunError.{RunError}
use Rattle.textwrap_program.specs.declared.filling.RunError.TheVariants.{Read, NotUtf8, Memory, Write}

-- what becomes of the writer after the whole input was read is the run's outcome
pub Runs-read : (width : ℕ) (algorithm : Algorithm) (unread left old new : Option (List ℕ))
    (input : List ℕ) (fault : Option RunError) → ReadsAll unread left input
    → FillsTo width algorithm input old new fault → Runs width algorithm unread left old new fault
Runs-read width algorithm unread left old new input None reads fills = (input, reads, fills)
Runs-read width algorithm unread left old new input (Some Read) reads fills = absurd fills
Runs-read width algorithm unread left old new input (Some NotUtf8) reads fills =
    (input, reads, fills)
Runs-read width algorithm unread left old new input (Some Memory) reads fills = fills.1
Runs-read width algorithm unread left old new input (Some Write) reads fills = (input, reads, fills)
