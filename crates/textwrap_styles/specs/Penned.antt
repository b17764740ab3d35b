-- What the visible characters of a text are written with: the pen and the link where each stands.
use Rattle.std.specs.Prelude.{ℕ, List, [], ◌∷◌, ◌++◌, chars, encode_utf8_all, fold}
use Rattle.std.specs.Prelude.{if◌then◌else◌}
use Rattle.textwrap_text.specs.Units.{TextUnit, Visible, Sequence, units}
use Rattle.textwrap_styles.specs.Indents.{after_indent, before_text}
use Rattle.textwrap_styles.specs.Pen.{Pen, apply, plain_pen}
use Rattle.textwrap_styles.specs.Styles.{is_link, is_style, link_target, sequences}
use Rattle.textwrap_styles.specs.Styles.{style_parameters}

-- a pen, and the address of a link, empty where there is none
pub record Rendition : Type 0 where
  pub pen : Pen
  pub link : List ℕ

abbrev pub plain_rendition : Rendition
plain_rendition = record { pen = plain_pen; link = [] }

-- after an escape sequence: a style changes the pen alone, and what sets or ends a link the link
abbrev pub with_style : Pen → List ℕ → Pen
with_style pen sequence =
    if is_style sequence then apply (style_parameters sequence) pen else pen

abbrev pub with_link : List ℕ → List ℕ → List ℕ
with_link link sequence = if is_link sequence then link_target sequence else link

abbrev pub with_sequence : Rendition → List ℕ → Rendition
with_sequence now sequence =
    record { pen = with_style now.pen sequence; link = with_link now.link sequence }

-- after these sequences, where it was plain before them, and after those of a text
abbrev pub rendition_of : List (List ℕ) → Rendition
rendition_of before = fold with_sequence plain_rendition before

abbrev pub rendition_after : List ℕ → Rendition
rendition_after text = rendition_of (sequences text)

-- a visible character, and what it is written with
pub record PennedCharacter : Type 0 where
  pub character : ℕ
  pub rendition : Rendition

abbrev pub penned_units : Rendition → List TextUnit → List PennedCharacter
penned_units now [] = []
penned_units now (Visible c ∷ us) =
    record { character = c; rendition = now } ∷ penned_units now us
penned_units now (Sequence cs ∷ us) = penned_units (with_sequence now (encode_utf8_all cs)) us

-- those of a text that begins with this
abbrev pub penned_text : Rendition → List ℕ → List PennedCharacter
penned_text now text = penned_units now (units (chars text))

-- what each line is to show: what stands before its text by itself, and its text as it goes on with
-- this, after the texts of the lines before it
abbrev pub penned_lines : List ℕ → List ℕ → Rendition → List (List ℕ)
    → List (List PennedCharacter)
penned_lines indent later now [] = []
penned_lines indent later now (line ∷ lines) =
    let text = after_indent indent line in
    (penned_text plain_rendition (before_text indent line) ++ penned_text now text)
    ∷ penned_lines later later (fold with_sequence now (sequences text)) lines
