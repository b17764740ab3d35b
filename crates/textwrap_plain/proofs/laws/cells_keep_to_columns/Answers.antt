use Rattle.textwrap_plain.proofs.laws.cells_keep_to_columns.Goals as goal
use Rattle.textwrap_plain.proofs.CellLines.{cells-keep}

pub returns : goal.returns
returns c = cells-keep
