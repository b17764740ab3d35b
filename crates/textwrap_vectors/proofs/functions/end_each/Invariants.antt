use Rattle.std.proofs.Common.{◌≡◌, ◌+◌, map}
use Rattle.std.specs.List.{range_with_len}
use Rattle.textwrap.specs.LineEnds.{AreEnds}
use Rattle.textwrap.proofs.Cutting.{EndWith}
use Rattle.textwrap_vectors.proofs.functions.end_each.Given as goal

-- the ends so far, the last of them after the words so far
abbrev pub invariant-loop-before : goal.invariant-loop-before
invariant-loop-before l = record {
  ends : l.ends.items ≡ map (λ before. before + 1) (range_with_len 0 l.before);
  are : AreEnds l.words l.ends.items;
  end_with : EndWith l.ends.items l.before;
}
