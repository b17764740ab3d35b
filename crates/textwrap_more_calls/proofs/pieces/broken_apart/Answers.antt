use Rattle.textwrap_more_calls.proofs.pieces.broken_apart.Goals as goal
use Rattle.textwrap_calls.proofs.Common.{rules}
use Rattle.textwrap_more_calls.proofs.PieceLemmas.{tiled-broken_text}

pub place_words-requires : goal.place_words-requires
place_words-requires c = search (rules, tiled-broken_text)
