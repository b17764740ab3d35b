use Rattle.std.proofs.Common.{length}
use Rattle.textwrap_patterns.proofs.TrieSoFar.{HasWritten}
use Rattle.textwrap_patterns.proofs.writing.+push_trie.Given as goal

abbrev pub decreases-push_trie : goal.decreases-push_trie
decreases-push_trie g l = l.height

-- the entries before those that are left are written
abbrev pub invariant-loop-left : goal.invariant-loop-left
invariant-loop-left g l =
    HasWritten l.fn.depth l.numbers l.fn.entries l.left l.children.items l.fn.slots.words.items
    l.slots.words.items l.fn.lists.words.items l.lists.words.items

abbrev pub decreases-loop-left : goal.decreases-loop-left
decreases-loop-left g l = length l.left
