use Rattle.textwrap.proofs.laws.rows_are_even.Goals as goal
use Rattle.textwrap.proofs.Text.Tables.{row_parts-joined, rows_even}

pub returns : goal.returns
returns c = record { parts = row_parts-joined; even = rows_even }
