use Rattle.textwrap_lines.proofs.laws.pieces_are_unique.Goals as goal
use Rattle.textwrap_layout.proofs.Paragraph.Pieces.{ArePieces-unique}

pub returns : goal.returns
returns c = ArePieces-unique
