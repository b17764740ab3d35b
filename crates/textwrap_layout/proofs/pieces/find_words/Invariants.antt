use Rattle.textwrap_layout.proofs.pieces.find_words.Given as goal
use Rattle.textwrap_text.proofs.Common.{map, ◌++◌, ◌≡◌}
use Rattle.textwrap_layout.proofs.Common.{word_view, words_of}

-- the words so far, and those that are left, are all
abbrev pub invariant-loop-word : goal.invariant-loop-word
invariant-loop-word g l = map word_view l.words.items ++ l.word-iterator ≡ words_of l.paragraph
