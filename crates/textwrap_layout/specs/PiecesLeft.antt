-- The pieces of a paragraph that are still to come.
use Rattle.std.specs.Prelude.{List}
use Rattle.textwrap_words.specs.CutPiecesLeft.{cut_standing_left}
use Rattle.textwrap_words.specs.PiecesLeft.{standing_left}
use Rattle.textwrap_words.specs.declared.pieces.Piece.{Piece}
use Rattle.textwrap_layout.specs.declared.paragraph_pieces.ParagraphPieces.{ParagraphPieces}
use Rattle.textwrap_layout.specs.declared.paragraph_pieces.ParagraphPieces.TheVariants.{AtBlanks, AtCuts}

abbrev pub left_standing : ParagraphPieces → List Piece
left_standing (AtBlanks pieces) = standing_left pieces
left_standing (AtCuts pieces) = cut_standing_left pieces
