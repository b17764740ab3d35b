use Rattle.textwrap_layout.proofs.pieces.split_list.Given as goal
use Rattle.textwrap_text.proofs.Common.{map, take}
use Rattle.textwrap_words.proofs.Common.{AreSplit, word_view}

-- the pieces so far are those of the words before this one
abbrev pub invariant-loop-word : goal.invariant-loop-word
invariant-loop-word g l =
    AreSplit (g.P.Parts.may l.parts).Points (map word_view (take l.word-index l.words))
    (map word_view l.pieces.items)
