-- The pieces that an iterator over them has still to give.
use Rattle.std.specs.Prelude.{List, [], ◌++◌, if◌then◌else◌}
use Rattle.textwrap_words.specs.PieceCuts.{pieces_from_place}
use Rattle.textwrap_words.specs.Pieces.{as_splitter, empty_front, stand_from}
use Rattle.textwrap_words.specs.declared.pieces.Piece.{Piece}
use Rattle.textwrap_words.specs.declared.pieces.Pieces.{Pieces}

-- where they stand: one without text, if it is still to come, and those from the place on
abbrev pub standing_left : Pieces → List Piece
standing_left pieces = stand_from pieces.at ((if pieces.has_front then empty_front else [])
    ++ pieces_from_place (as_splitter pieces.splitter) pieces.limit pieces.text.now pieces.at)
