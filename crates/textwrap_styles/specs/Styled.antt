-- Texts that may be put together, and lines whose styles may be carried.
use Rattle.std.specs.Prelude.{◌≡◌, ℕ, ⊤, List, [], ◌∷◌, All, IsUtf8}
use Rattle.textwrap_layout.specs.Text.{HasWholeSequences}
use Rattle.textwrap_styles.specs.Indents.{after_indent, before_text}
use Rattle.textwrap_styles.specs.Penned.{plain_rendition, rendition_after}

-- a text, each of whose escape sequences ends in it
abbrev pub IsWholeText : List ℕ → Type 0
IsWholeText text = IsUtf8 text × HasWholeSequences text

-- it leaves the pen plain and no link open
abbrev pub EndsPlain : List ℕ → Type 0
EndsPlain text = rendition_after text ≡ plain_rendition

-- the relation holds of each line and its indent: of the first with this one, of the others with the
-- later one
abbrev pub EachWithIndent : (List ℕ → List ℕ → Type 0) → List ℕ → List ℕ → List (List ℕ) → Type 0
EachWithIndent Is indent later [] = ⊤
EachWithIndent Is indent later (line ∷ lines) = Is indent line × All (Is later) lines

-- the text of the line is whole, and so is what stands before it, which ends plain
pub record MayCarry (indent line : List ℕ) : Type 0 where
  pub front : IsWholeText (before_text indent line)
  pub plain : EndsPlain (before_text indent line)
  pub text : IsWholeText (after_indent indent line)
