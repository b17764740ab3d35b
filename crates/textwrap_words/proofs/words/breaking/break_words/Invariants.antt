use Rattle.textwrap_words.proofs.words.breaking.break_words.Given as goal
use Rattle.textwrap_text.proofs.Common.{map, ◌≡◌}
use Rattle.textwrap_words.proofs.Common.{broken_words, word_view, IsFinite}

abbrev pub invariant-loop-word : goal.invariant-loop-word
invariant-loop-word g l = g.I.IntoIter.Iterator.can_next l.word-iterator
    × IsFinite (g.I.IntoIter.Iterator.remaining l.word-iterator)
    × (map word_view l.pieces.items ≡ broken_words l.line_width (map word_view l.yielded))
