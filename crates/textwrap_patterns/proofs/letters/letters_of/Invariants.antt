use Rattle.textwrap_patterns.specs.Letters.{letters_among, letters_of}
use Rattle.textwrap_text.proofs.Common.{characters_left, ◌++◌, ◌≡◌}
use Rattle.textwrap_patterns.proofs.letters.letters_of.Given as goal

-- the letters so far, and those to come, are all
abbrev pub invariant-loop-character : goal.invariant-loop-character
invariant-loop-character g l =
    l.letters.items ++ letters_among (characters_left l.character-iterator) ≡ letters_of l.word
