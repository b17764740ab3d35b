use Rattle.textwrap_marked.proofs.least_cost.divide_at_least_cost.Goals as goal
use Rattle.textwrap_base.proofs.Cost.Chosen.{by_table-chosen}
use Rattle.textwrap_marked.{proofs.PieceSums.row-sums, specs.Pieces.piece_priced}

pub search-requires-clause-measured : goal.search-requires-clause-measured
search-requires-clause-measured c = row-sums c.args.pieces.now c.requires.row c.requires.fits

pub returns-clause-divided : goal.returns-clause-divided
returns-clause-divided c = record {
  by_table = c.in_ok-search.ensures;
  chosen = λ equal. by_table-chosen piece_priced c.args.penalties.now c.args.widths.now
      c.args.pieces.now _ equal c.in_ok-search.ensures;
}
