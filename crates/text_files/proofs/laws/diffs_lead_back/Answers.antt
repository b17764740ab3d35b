use Rattle.text_files.proofs.DiffLaws.{lead-back}
use Rattle.text_files.proofs.laws.diffs_lead_back.Goals as goal

pub returns : goal.returns
returns c = lead-back
