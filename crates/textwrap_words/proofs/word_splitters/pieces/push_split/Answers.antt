use Rattle.textwrap_text.proofs.Common.{append_assoc, arith, drop_more, map_push, rules}
use Rattle.textwrap_words.proofs.word_splitters.pieces.push_split.Goals as goal

pub loop-point-init : goal.loop-point-init
loop-point-init g c = search (rules, arith)

pub inner_piece-requires-clause-order : goal.inner_piece-requires-clause-order
inner_piece-requires-clause-order g c = search (rules, arith, drop_more)

pub inner_piece-requires-clause-to_cut : goal.inner_piece-requires-clause-to_cut
inner_piece-requires-clause-to_cut g c = search (rules, arith, drop_more)

pub loop-point-preserved : goal.loop-point-preserved
loop-point-preserved g c = search (rules, arith, drop_more, map_push, append_assoc)
