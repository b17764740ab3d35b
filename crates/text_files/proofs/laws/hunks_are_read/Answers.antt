use Rattle.text_files.proofs.DiffReading.{are-read}
use Rattle.text_files.proofs.laws.hunks_are_read.Goals as goal

pub returns : goal.returns
returns c = are-read
