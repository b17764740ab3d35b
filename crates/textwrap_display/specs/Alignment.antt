-- A line with blanks up to a width.
use Rattle.std.specs.Prelude.{ℕ, ◌-◌, ◌/◌, ◌==◌, List, ◌++◌, if◌then◌else◌}
use Rattle.textwrap.specs.Columns.{blanks}
use Rattle.textwrap_layout.specs.Paragraph.{Line, Built, Slice}
use Rattle.textwrap_text.specs.Units.{text_width}
use Rattle.textwrap_display.specs.declared.alignment.Alignment.{Alignment}
use Rattle.textwrap_display.specs.declared.alignment.Alignment.TheVariants.{Left, Right, Centre}

-- how many of the spare columns stand before the line: in the middle the smaller half
abbrev pub blanks_before : Alignment → ℕ → ℕ
blanks_before Left spare = 0
blanks_before Right spare = spare
blanks_before Centre spare = spare / 2

-- a line with so many spare blanks on its two sides
abbrev pub spread : Alignment → ℕ → List ℕ → List ℕ
spread alignment spare line =
    let before = blanks_before alignment spare in
    blanks before ++ line ++ blanks (spare - before)

-- a line with blanks on its two sides, as many as there are spare columns
abbrev pub aligned : Alignment → ℕ → List ℕ → Line
aligned alignment width line =
    let spare = width - text_width line in
    if spare == 0 then Slice line else Built (spread alignment spare line)
