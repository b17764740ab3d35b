use Rattle.textwrap.proofs.columns.LineCellsRowCells.cell.Goals as goal
use Rattle.textwrap.proofs.Common.{length-map, line_bytes, line_view, arith, rules, map}
use Rattle.textwrap.proofs.Text.Tables.{shown-at}

pub returns : goal.returns
returns g c =
    let table = c.args.self.now in
    let views = map line_view table.lines.now in
    let size = length-map table.lines.now line_view in
    let shown = shown-at (map line_bytes views) table.rows table.columns c.args.r table.width
    c.args.c c.place.result c.requires
    (omega (arith, c.place.ensures, length-map views line_bytes, size)) in
    rw (shown, ← c.line_at-text.ensures)
    (search rules)
