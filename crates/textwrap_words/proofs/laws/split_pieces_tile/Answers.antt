use Rattle.textwrap_words.proofs.laws.split_pieces_tile.Goals as goal
use Rattle.textwrap_words.proofs.Word.Splitting.{points_of-cuts}
use Rattle.textwrap_words.proofs.Word.Pieces.{tiled-split_pieces, tiled-split_words}

pub returns : goal.returns
returns c = record { cuts = points_of-cuts; pieces = tiled-split_pieces; words = tiled-split_words }
