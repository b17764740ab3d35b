use Rattle.textwrap.proofs.laws.columns_keep_lines.Goals as goal
use Rattle.textwrap.proofs.Text.Tables.{columns_kept}

pub returns : goal.returns
returns c = columns_kept
