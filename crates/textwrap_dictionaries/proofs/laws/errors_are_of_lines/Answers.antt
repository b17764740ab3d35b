use Rattle.textwrap_dictionaries.proofs.{FirstLines.errors-of-lines, FirstTexLines.errors-of-tex}
use Rattle.textwrap_dictionaries.proofs.laws.errors_are_of_lines.Goals as goal

pub returns : goal.returns
returns c = record { lists = errors-of-lines; tex = errors-of-tex }
