-- The characters that an iterator over them has still to give.
use Rattle.std.specs.Prelude.{List, chars}
use Rattle.std.specs.Str.Iter.{char_indices_offset, char_indices_rest}
use Rattle.textwrap_text.specs.Characters.{characters_from}
use Rattle.textwrap_text.specs.declared.characters.Character.{Character}
use Rattle.textwrap_text.specs.declared.characters.Characters.{Characters}

abbrev pub characters_left : Characters → List Character
characters_left s =
    characters_from s.state (char_indices_offset s.rest) (chars (char_indices_rest s.rest))
