use Rattle.std.proofs.Common.{length}
use Rattle.textwrap_program.proofs.WriteLemmas.{WrittenSoFar}
use Rattle.textwrap_program.proofs.filling.write_whole.Given as goal

abbrev pub invariant-loop-rest : goal.invariant-loop-rest
invariant-loop-rest g l = WrittenSoFar (g.W.Write.contents l.fn.writer)
    (g.W.Write.contents l.writer) l.rest l.bytes

abbrev pub decreases-loop-rest : goal.decreases-loop-rest
decreases-loop-rest g l = length l.rest
