use Rattle.textwrap_plain.proofs.laws.hyphenated_lines_are_unique.Goals as goal
use Rattle.textwrap_lines.proofs.Text.Groups.{filled_one, text_one}
use Rattle.textwrap_plain.{proofs.Unique.division_one, specs.Hyphenated.DividesAtPoints}

pub returns-clause-lines : goal.returns-clause-lines
returns-clause-lines c = λ h settings algorithm.
    text_one settings (DividesAtPoints h algorithm settings) (division_one h settings algorithm)

pub returns-clause-text : goal.returns-clause-text
returns-clause-text c = λ h settings algorithm.
    filled_one settings (DividesAtPoints h algorithm settings) (division_one h settings algorithm)
