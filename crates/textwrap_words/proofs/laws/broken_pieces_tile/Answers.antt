use Rattle.textwrap_text.proofs.Common.{arith}
use Rattle.textwrap_words.proofs.laws.broken_pieces_tile.Goals as goal
use Rattle.textwrap_words.proofs.Word.BrokenPieces.{tiled-broken_pieces, tiled-broken_words}
use Rattle.textwrap_words.proofs.Word.BrokenPieces.{broken_texts-tile, pieces_with-texts}

pub returns : goal.returns
returns c =
    grind (arith, pieces_with-texts, broken_texts-tile, tiled-broken_pieces, tiled-broken_words)
