use Rattle.textwrap_text.proofs.ClassNames.{chars, visible_in, ◌≡◌}
use Rattle.textwrap_text.specs.{Characters.shown, CharactersLeft.characters_left}
use Rattle.textwrap_unicode.proofs.Common.{number_first}
use Rattle.textwrap_unicode.proofs.numbers.shown_number_first.Given as goal

-- the visible characters to come give the answer
abbrev pub invariant-loop-character : goal.invariant-loop-character
invariant-loop-character l = number_first (shown (characters_left l.character-iterator))
    ≡ number_first (visible_in l.fn.state (chars l.text))
