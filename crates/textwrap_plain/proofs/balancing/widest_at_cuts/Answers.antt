use Rattle.textwrap_plain.proofs.balancing.widest_at_cuts.Goals as goal
use Rattle.textwrap_plain.specs.Widest.{widest_place}
use Rattle.textwrap_text.proofs.Common.{ap, arith}
use Rattle.textwrap_words.specs.CutPiecesLeft.{cut_standing_left}

pub loop-piece-init : goal.loop-piece-init
loop-piece-init c =
    omega (
      arith,
      ap (λ pieces. widest_place (cut_standing_left pieces))
          c.into_iter-piece-iterator.ensures.into_iter_gives,
    )

pub loop-piece-preserved : goal.loop-piece-preserved
loop-piece-preserved c =
    omega (arith, ap widest_place c.in-Some.ensures.steps)

pub returns : goal.returns
returns c = omega (arith, ap widest_place c.in-None.ensures.steps.0, c.loop-piece.invariant)
