use Rattle.textwrap_lines.proofs.wrapping.tiled_len.Goals as goal
use Rattle.textwrap_lines.proofs.Common.{ap, arith, IsUtf8, length, length-append, subst, sym, ◌+◌}
use Rattle.textwrap_text.proofs.Common.{IsUtf8-append}
use Rattle.textwrap_words.proofs.Word.Words.{tiled-take, tiled-take-le}

pub overflow_add-len-in-loop-piece : goal.overflow_add-len-in-loop-piece
overflow_add-len-in-loop-piece c =
    let more = tiled-take c.args.pieces.now c.loop-piece.piece-index _ _ _ c.loop-piece-test.true
    c.as_bytes.ensures.value c.as_bytes-in-loop-piece.ensures.value in
    let lengths = simp length-append at (ap length more) in
    omega (arith, tiled-take-le c.args.pieces.now (c.loop-piece.piece-index + 1))

pub loop-piece-preserved : goal.loop-piece-preserved
loop-piece-preserved c =
    let more = tiled-take c.args.pieces.now c.loop-piece.piece-index _ _ _ c.loop-piece-test.true
    c.as_bytes.ensures.value c.as_bytes-in-loop-piece.ensures.value in
    let lengths = simp length-append at (ap length more) in (
      omega arith,
      subst IsUtf8 (sym more) (IsUtf8-append _ _ c.loop-piece.invariant.1
          (IsUtf8-append _ _ c.as_bytes.ensures.utf8 c.as_bytes-in-loop-piece.ensures.utf8)),
    )
