use Rattle.textwrap.proofs.columns.wrap_columns_by.Goals as goal
use Rattle.textwrap.proofs.Common.{layout_view, line_bytes, line_view, table_rows}
use Rattle.textwrap.proofs.Common.{Settings, subst, map, ◌∙◌, ap}
use Rattle.textwrap.specs.Columns as columns
use Rattle.textwrap_layout.proofs.Common.{AreTextLines}
use Rattle.textwrap_layout.specs.Paragraph.{DividesWith}

pub returns-clause-rows : goal.returns-clause-rows
returns-clause-rows g c =
    let parts = c.args.parts.now in (
      map line_view c.in_ok-lines.lines.items,
      subst (λ table.
          let narrow : Settings = record (layout_view c.args.layout) { width = table.column_width } in
          AreTextLines narrow (DividesWith (g.P.Parts.may parts) narrow) c.args.text.now
          (map line_view c.in_ok-lines.lines.items)) c.new-table.ensures c.in_ok-lines.ensures.lines,
      c.in_ok-table_rows.ensures
          ∙ ap (λ ls. table_rows (columns.table_view c.new-table.result)
          (map line_bytes (map line_view ls))) c.deref.ensures.value
          ∙ ap (λ table. table_rows table (map line_bytes (map line_view c.in_ok-lines.lines.items)))
          c.new-table.ensures,
    )
