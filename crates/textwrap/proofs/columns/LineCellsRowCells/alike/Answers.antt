use Rattle.textwrap_text.proofs.Common.{rules}
use Rattle.textwrap.proofs.{Common.length-map, Common.arith, Text.Tables.shown-past}
use Rattle.textwrap.proofs.columns.LineCellsRowCells.alike.Goals as goal

pub returns-else-place-self-clause-same : goal.returns-else-place-self-clause-same
returns-else-place-self-clause-same g c =
    let past = c.if-place-self.false in
    search (rules, arith, shown-past, length-map, past, c.place.ensures, c.requires)
