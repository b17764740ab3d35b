use Rattle.textwrap_lines.proofs.steps.split_at.Given as goal
use Rattle.textwrap_lines.proofs.Common.{drop, map, word_view}
use Rattle.textwrap_lines.proofs.InSteps.{HasSplit}

-- the first words are split, and the paragraph goes on with the others
abbrev pub invariant-loop-word : goal.invariant-loop-word
invariant-loop-word g l = HasSplit l.paragraph l.points (map word_view l.word-items)
    (map word_view l.pieces.items) (map word_view (drop l.word-index l.word-items)) l.start
