use Rattle.textwrap.proofs.columns.LineCellsRowCells.columns.Goals as goal
use Rattle.textwrap.proofs.Common.{length-map, rules}
use Rattle.std.proofs.lemmas.List.FromFn.{length-map-range_with_len}

pub returns-clause-all : goal.returns-clause-all
returns-clause-all g c = λ r. search (rules, length-map, length-map-range_with_len)
