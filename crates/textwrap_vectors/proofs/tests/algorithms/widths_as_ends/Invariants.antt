use Rattle.textwrap.specs.LineEnds.{AreEnds}
use Rattle.textwrap.proofs.Cutting.{EndWith}
use Rattle.textwrap_vectors.proofs.tests.algorithms.widths_as_ends.Given as goal

-- the ends so far, and the last of them
abbrev pub invariant-loop-end : goal.invariant-loop-end
invariant-loop-end l = record {
  ends : AreEnds l.words l.ends.items;
  end_with : EndWith l.ends.items l.last;
}
