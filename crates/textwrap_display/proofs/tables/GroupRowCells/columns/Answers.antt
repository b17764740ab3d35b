use Rattle.textwrap_display.proofs.tables.GroupRowCells.columns.Goals as goal
use Rattle.textwrap_display.proofs.TableGroups.{length-shown}
use Rattle.textwrap_display.specs.Tables.{cell_texts, shape_of}
use Rattle.textwrap_text.proofs.Common.{length-map, map, ◌∙◌}

pub returns-clause-all : goal.returns-clause-all
returns-clause-all g c = λ r.
    let columns = c.args.self.now.columns.now in
    length-shown (map shape_of columns) (cell_texts c.args.self.now.cells.now) r
    ∙ length-map columns shape_of
