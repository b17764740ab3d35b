-- The pieces that an iterator over them has still to give, where words end at cuts.
use Rattle.std.specs.Prelude.{◌-◌, List, [], ◌++◌, if◌then◌else◌, map, slice_range}
use Rattle.textwrap_words.specs.Breaking.{broken_words}
use Rattle.textwrap_words.specs.Cuts.{parts_after}
use Rattle.textwrap_words.specs.PieceCuts.{pieces_within}
use Rattle.textwrap_words.specs.Pieces.{as_splitter, empty_front, stand_from}
use Rattle.textwrap_words.specs.WordSplitters.{split_words}
use Rattle.textwrap_words.specs.Words.{WordText, word_of}
use Rattle.textwrap_words.specs.declared.cut_pieces.CutPieces.{CutPieces}
use Rattle.textwrap_words.specs.declared.pieces.Piece.{Piece}

-- those of the word that it is at, and those of the words after it
abbrev pub words_to_come : CutPieces → List WordText
words_to_come pieces =
    let splitter = as_splitter pieces.splitter in
    let text = pieces.text.now in
    pieces_within splitter pieces.limit (slice_range text pieces.start pieces.end)
    (pieces.at - pieces.start)
    ++ broken_words pieces.limit
    (split_words splitter (map word_of (parts_after pieces.end pieces.cuts.now text)))

-- where they stand: one without text, if it is still to come, and those from the place on
abbrev pub cut_standing_left : CutPieces → List Piece
cut_standing_left pieces = stand_from pieces.at
    ((if pieces.has_front then empty_front else []) ++ words_to_come pieces)
