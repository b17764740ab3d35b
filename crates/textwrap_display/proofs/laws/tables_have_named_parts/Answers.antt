use Rattle.textwrap_display.proofs.laws.tables_have_named_parts.Goals as goal
use Rattle.textwrap_display.proofs.TableGroups.{table-as}

pub returns : goal.returns
returns g c = table-as c.args.columns.now
