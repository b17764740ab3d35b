use Rattle.text_files.proofs.DiffLaws.{are-lines}
use Rattle.text_files.proofs.laws.texts_are_their_lines.Goals as goal

pub returns : goal.returns
returns c = are-lines
