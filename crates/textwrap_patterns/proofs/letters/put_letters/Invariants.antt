use Rattle.textwrap_patterns.specs.Letters.{letters_among, letters_of}
use Rattle.textwrap_text.proofs.Common.{characters_left, ◌++◌, ◌≡◌, ◌≤◌, length, take}
use Rattle.textwrap_patterns.proofs.letters.put_letters.Given as goal

-- the letters so far, and those to come, are all
abbrev pub invariant-loop-character : goal.invariant-loop-character
invariant-loop-character l = record {
  letters : take l.count l.room ++ letters_among (characters_left l.character-iterator) ≡ letters_of l.word;
  within : l.count ≤ length l.room;
}
