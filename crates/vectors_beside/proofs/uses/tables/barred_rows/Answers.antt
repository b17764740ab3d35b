use Rattle.vectors_beside.proofs.Common.{default_algorithm, settings_at, line_bytes, AtHyphens, map}
use Rattle.vectors_beside.proofs.Common.{codes, ◌∙◌}
use Rattle.vectors_beside.proofs.uses.tables.barred_rows.Goals as goal

pub returns-clause-table : goal.returns-clause-table
returns-clause-table c =
    let columns = c.args.columns in
    let rows = c.in_ok-rows.ensures.built_in (settings_at c.args.width) AtHyphens
    default_algorithm c.new-options.ensures in
    let lines = map line_bytes rows.0 in (
      rows.0,
      rows.1,
      rows.2,
      c.columns_keep_lines.ensures lines columns c.requires,
      λ room fits r. let even = c.rows_are_even.ensures.even c.args.width columns (codes "| ")
          (codes " | ") (codes " |") lines r c.requires room fits in even.0 ∙ even.1,
    )
