-- A text filled with its lines justified.
use Rattle.std.specs.Prelude.{◌≡◌, ℕ, ◌-◌, Bool, true, false, List, [], ◌∷◌, ◌++◌}
use Rattle.std.specs.Prelude.{if◌then◌else◌}
use Rattle.std.specs.List.{flat_map}
use Rattle.textwrap_styles.specs.Indents.{after_indent, before_text}
use Rattle.textwrap_display.specs.Justifying.{justified}
use Rattle.textwrap_text.specs.LineEnding.{ending_bytes, join_with, paragraphs_of}
use Rattle.textwrap_layout.specs.Options.{Settings}
use Rattle.textwrap_layout.specs.Paragraph.{LineParts, AreParagraphParts, indent_of}
use Rattle.textwrap_layout.specs.Paragraph.{line_bytes, line_from}
use Rattle.textwrap_layout.specs.Text.{AreGroups}
use Rattle.textwrap_text.specs.Units.{text_width}
use Rattle.textwrap_words.specs.Words.{WordText}

-- the last by one function, and of those before it the first by another, the later ones by a third
abbrev pub all_but_last : {X Y : Type 0} → (X → Y) → (X → Y) → (X → Y) → List X → List Y
all_but_last first later last [] = []
all_but_last first later last (x ∷ []) = last x ∷ []
all_but_last first later last (x ∷ next ∷ xs) =
    first x ∷ all_but_last later later last (next ∷ xs)

-- a line, justified after its indent: the gaps of the indent stay
abbrev pub justified_line : ℕ → LineParts → List ℕ
justified_line width p =
    p.indent ++ line_bytes (justified (width - text_width p.indent) (p.slice ++ p.penalty))

-- the lines of a paragraph: all but the last are justified
abbrev pub justified_lines : ℕ → List LineParts → List (List ℕ)
justified_lines width =
    all_but_last (justified_line width) (justified_line width) (λ p. line_bytes (line_from p))

-- the lines of each paragraph, joined by the line ending
pub record IsJustifiedText (settings : Settings)
    (Divides : Bool → List ℕ → List (List WordText) → Type 0) (text filled : List ℕ) : Type 0 where
  pub groups : List (List LineParts)
  pub defined : AreGroups (AreParagraphParts settings Divides) false
      (paragraphs_of settings.line_ending text) groups
  pub joined : filled ≡ join_with (ending_bytes settings.line_ending)
      (flat_map (justified_lines settings.width) groups)

-- ---- the same, of lines by their texts

-- the line is justified after the indent, where it begins with that
abbrev pub justified_after : ℕ → List ℕ → List ℕ → List ℕ
justified_after width indent line =
    before_text indent line
    ++ line_bytes (justified (width - text_width indent) (after_indent indent line))

-- after the indent that each has, all but the last are; `is_later` says that a line stands before them
abbrev pub justified_after_indents : Settings → Bool → List (List ℕ) → List (List ℕ)
justified_after_indents settings is_later =
    all_but_last (justified_after settings.width (indent_of settings is_later))
    (justified_after settings.width (indent_of settings true)) (λ line. line)

-- the lines one after another, each with the ending before it; the first has none if no line stands
-- before it
abbrev pub joined_on : List ℕ → Bool → List (List ℕ) → List ℕ
joined_on ending is_later [] = []
joined_on ending is_later (line ∷ lines) =
    (if is_later then ending else []) ++ line ++ joined_on ending true lines

-- what the lines of a paragraph add to the text
abbrev pub added_lines : Settings → Bool → List (List ℕ) → List ℕ
added_lines settings is_later lines =
    joined_on (ending_bytes settings.line_ending) is_later
    (justified_after_indents settings is_later lines)
