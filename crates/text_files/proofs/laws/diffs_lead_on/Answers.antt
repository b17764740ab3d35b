use Rattle.text_files.proofs.DiffLaws.{lead-on}
use Rattle.text_files.proofs.laws.diffs_lead_on.Goals as goal

pub returns : goal.returns
returns c = lead-on
