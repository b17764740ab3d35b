use Rattle.vectors_beside.proofs.Common.{AreEnds, EndWith}
use Rattle.vectors_beside.proofs.uses.lists.end_after_each.Given as goal

-- the ends so far, the last of them after the words so far
abbrev pub invariant-loop-before : goal.invariant-loop-before
invariant-loop-before l = record {
  ends : AreEnds l.words l.ends.items;
  end_with : EndWith l.ends.items l.before;
}
