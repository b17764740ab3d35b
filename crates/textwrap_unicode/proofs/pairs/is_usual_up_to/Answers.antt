use Rattle.textwrap_text.proofs.ClassNames.{arith}
use Rattle.textwrap_unicode.proofs.PrintableCuts.{usual-run}
use Rattle.textwrap_unicode.proofs.pairs.is_usual_up_to.Goals as goal

pub loop-place-preserved-then-is_block_usual : goal.loop-place-preserved-then-is_block_usual
loop-place-preserved-then-is_block_usual c =
    let (some, usual) = c.loop-place.invariant in (
      omega arith,
      usual-run c.args.text.now c.requires.printable c.loop-place.place 8 some
          (omega (arith, c.if-end-place-ge-BLOCK.true)) usual
          (c.is_block_usual.ensures.0 c.if-is_block_usual.true),
    )
