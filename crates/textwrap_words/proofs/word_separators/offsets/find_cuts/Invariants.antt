use Rattle.textwrap_words.proofs.word_separators.offsets.find_cuts.Given as goal
use Rattle.textwrap_words.proofs.Word.Offsets.{IsFinding}
use Rattle.textwrap_text.specs.CharactersLeft.{characters_left}

abbrev pub invariant-loop-character : goal.invariant-loop-character
invariant-loop-character g l =
    IsFinding l.offsets l.line (characters_left l.character-iterator) l.shown l.cuts.items
