use Rattle.textwrap_words.proofs.words.breaking.push_broken.Given as goal
use Rattle.textwrap_text.proofs.Common.{◌++◌, map, ◌≡◌}
use Rattle.textwrap_words.proofs.Common.{broken_word, pieces_left, word_view}

-- what was pushed, and the pieces that are left, are the word
abbrev pub invariant-loop-piece : goal.invariant-loop-piece
invariant-loop-piece g l = map word_view l.pieces.items ++ pieces_left l.piece-iterator
    ≡ map word_view l.fn.pieces.items ++ broken_word l.line_width (word_view l.fn.word)
