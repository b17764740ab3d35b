-- What justifies lines as they are found.
use Rattle.std.specs.Prelude.{◌≡◌, ℕ, true, false, ◌||◌, nat_lt, List, [], ◌∷◌, ◌++◌, length}
use Rattle.std.specs.Prelude.{if◌then◌else◌}
use Rattle.std.specs.String.{string_bytes}
use Rattle.textwrap_display.specs.JustifiedText.{added_lines, justified_after}
use Rattle.textwrap_display.specs.declared.justified_lines.JustifiedLines.{JustifiedLines}
use Rattle.textwrap_layout.specs.Options.{layout_view}
use Rattle.textwrap_layout.specs.Paragraph.{indent_of}
use Rattle.textwrap_text.specs.LineEnding.{ending_bytes}

-- the line that waits, if one does
abbrev pub waiting : {Z : Type 0} → JustifiedLines Z → List (List ℕ)
waiting lines = if lines.waits then string_bytes lines.line ∷ [] else []

-- the text, where these lines of a paragraph come after it
abbrev pub text_with : {Z : Type 0} → JustifiedLines Z → List (List ℕ) → List ℕ
text_with lines more =
    string_bytes lines.text ++ added_lines (layout_view lines.layout) lines.has_lines more

-- what is written of the line that waits, if one does and is not the last of its paragraph
abbrev pub justified_waiting : {Z : Type 0} → JustifiedLines Z → List ℕ
justified_waiting lines =
    if lines.waits then (if lines.has_lines then ending_bytes lines.layout.line_ending else [])
    ++ justified_after lines.layout.width (indent_of (layout_view lines.layout) lines.has_lines)
    (string_bytes lines.line)
    else []

-- it wrote this, with the line that waited, if one did
pub record Writes {Z : Type 0} (old new : JustifiedLines Z) (bytes : List ℕ) : Type 0 where
  pub text : string_bytes new.text ≡ string_bytes old.text ++ bytes
  pub has_lines : new.has_lines ≡ old.has_lines || old.waits
  pub layout_is : new.layout ≡ old.layout

-- it did, and this line waits
pub record TakesLine {Z : Type 0} (old new : JustifiedLines Z) (line : List ℕ) : Type 0 where
  pub writes : Writes old new (justified_waiting old)
  pub waits : new.waits ≡ true
  pub line_is : string_bytes new.line ≡ line

-- of the paragraph that began at `first` it took these lines: the last waits
pub record HoldsJustified {Z : Type 0} (first now : JustifiedLines Z) (held : List (List ℕ))
    : Type 0 where
  pub text : (more : List (List ℕ))
      → text_with now (waiting now ++ more) ≡ text_with first (held ++ more)
  pub waits : now.waits ≡ nat_lt 0 (length held)
  pub some : now.has_lines || now.waits ≡ first.has_lines || now.waits
  pub layout_is : now.layout ≡ first.layout

-- it wrote the lines of a paragraph, and none waits
pub record WritesParagraph {Z : Type 0} (old new : JustifiedLines Z) (lines : List (List ℕ))
    : Type 0 where
  pub text : string_bytes new.text ≡ text_with old lines
  pub has_lines : new.has_lines ≡ old.has_lines || nat_lt 0 (length lines)
  pub waits : new.waits ≡ false
  pub layout_is : new.layout ≡ old.layout
