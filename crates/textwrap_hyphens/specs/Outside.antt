-- Where a word is split behind hyphens of its own that stand within no escape sequence.
use Rattle.std.specs.Prelude.{ℕ, Bool, true, false, ◌&&◌, List, chars, filter, take}
use Rattle.std.specs.List.{fold}
use Rattle.textwrap_text.specs.Escapes.{next_of}
use Rattle.textwrap_text.specs.declared.escapes.State.{State}
use Rattle.textwrap_text.specs.declared.escapes.State.TheVariants.{Text}
use Rattle.textwrap_words.specs.WordSplitters.{inner_offsets, is_hyphen_point}

-- there a visible character or a sequence may begin
abbrev pub is_text : State → Bool
is_text Text = true
is_text _ = false

-- an offset of a text stands within no escape sequence: each that began before it has ended
abbrev pub is_outside : List ℕ → ℕ → Bool
is_outside text at = is_text (fold next_of Text (chars (take at text)))

-- a hyphen between alphanumeric characters ends at the offset, and no escape sequence goes on there
abbrev pub is_hyphen_outside : List ℕ → ℕ → Bool
is_hyphen_outside text at = is_hyphen_point text at && is_outside text at

abbrev pub hyphens_outside : List ℕ → List ℕ
hyphens_outside text = filter (is_hyphen_outside text) (inner_offsets text)
