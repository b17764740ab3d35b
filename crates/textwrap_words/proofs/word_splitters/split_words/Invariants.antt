use Rattle.textwrap_words.proofs.word_splitters.split_words.Given as goal
use Rattle.textwrap_text.proofs.Common.{map}
use Rattle.textwrap_words.proofs.Common.{word_view, AreSplit, IsFinite}

-- the pieces so far are those of the words so far
abbrev pub invariant-loop-word : goal.invariant-loop-word
invariant-loop-word g l = g.I.IntoIter.Iterator.can_next l.word-iterator
    × IsFinite (g.I.IntoIter.Iterator.remaining l.word-iterator)
    × AreSplit (g.S.SplitPoints.may_split l.word_splitter) (map word_view l.yielded)
    (map word_view l.pieces.items)
