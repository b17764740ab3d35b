use Rattle.textwrap_lines.proofs.laws.paragraphs_are_unique.Goals as goal
use Rattle.textwrap_layout.proofs.Text.Paragraphs.{paragraphs_one}

pub returns : goal.returns
returns c = paragraphs_one
