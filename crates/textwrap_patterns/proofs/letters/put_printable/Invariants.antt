use Rattle.std.proofs.Common.{◌++◌, ◌≡◌, drop, take}
use Rattle.textwrap_patterns.specs.Letters.{letters_among}
use Rattle.textwrap_text.specs.{Characters.characters_from, declared.escapes.State.TheVariants.Text}
use Rattle.textwrap_patterns.proofs.letters.put_printable.Given as goal

-- the letters so far, and those of the bytes to come, are all
abbrev pub invariant-loop-at : goal.invariant-loop-at
invariant-loop-at l =
    take l.at l.room ++ letters_among (characters_from Text l.at (drop l.at l.word))
    ≡ letters_among (characters_from Text 0 l.word)
