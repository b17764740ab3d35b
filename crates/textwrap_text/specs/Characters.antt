-- The characters of a text, each with its place and whether it is visible.
use Rattle.std.specs.Prelude.{ℕ, ◌+◌, List, [], ◌∷◌, length, chars, encode_utf8, encode_utf8_all}
use Rattle.std.specs.Prelude.{filter, map}
use Rattle.textwrap_text.specs.Escapes.{next_of, shows}
use Rattle.textwrap_text.specs.declared.characters.Character.{Character}
use Rattle.textwrap_text.specs.declared.escapes.State.{State}
use Rattle.textwrap_text.specs.declared.escapes.State.TheVariants.{Text}

-- the characters of a text from a place on, where the state is this
abbrev pub characters_from : State → ℕ → List ℕ → List Character
characters_from state at [] = []
characters_from state at (c ∷ cs) = record { at = at; ch = c; is_visible = shows state c }
    ∷ characters_from (next_of state c) (at + length (encode_utf8 c)) cs

-- all characters of a text
abbrev pub characters_of : List ℕ → List Character
characters_of text = characters_from Text 0 (chars text)

-- the visible ones among characters
abbrev pub shown : List Character → List ℕ
shown cs = map (λ c. c.ch) (filter (λ c. c.is_visible) cs)

-- their bytes
abbrev pub shown_text : List Character → List ℕ
shown_text cs = encode_utf8_all (shown cs)
