-- A text with blanks in the place of its tabs.
use Rattle.std.specs.Prelude.{ℕ, ◌-◌, ◌%◌, ◌==◌, List, [], ◌∷◌, ◌++◌, if◌then◌else◌}
use Rattle.std.specs.List.{after_last, list_any, slice_split}
use Rattle.textwrap.specs.Columns.{blanks}
use Rattle.textwrap_layout.specs.Paragraph.{Line, Built, Slice}
use Rattle.textwrap_text.specs.LineEnding.{line_feed}
use Rattle.textwrap_text.specs.Units.{text_width}

abbrev pub tab : ℕ
tab = 9

-- the line in which a text ends: what stands behind its last line feed
abbrev pub last_line : List ℕ → List ℕ
last_line text = after_last (λ b. b == line_feed) text

-- how many blanks a tab becomes behind so many columns: up to the next column that `stop` divides
abbrev pub tab_blanks : ℕ → ℕ → ℕ
tab_blanks stop columns = if stop == 0 then 0 else stop - columns % stop

-- a part of a text, with the blanks of the tab behind it
abbrev pub filled_up : ℕ → List ℕ → List ℕ
filled_up stop part = part ++ blanks (tab_blanks stop (text_width (last_line part)))

-- the parts one after another, all but the last filled up
abbrev pub filled_parts : ℕ → List (List ℕ) → List ℕ
filled_parts stop [] = []
filled_parts stop (part ∷ []) = part
filled_parts stop (part ∷ next ∷ parts) = filled_up stop part ++ filled_parts stop (next ∷ parts)

-- the parts are those between tabs. As each stands at a column that `stop` divides, it is filled up
-- by itself
abbrev pub expanded_tabs : ℕ → List ℕ → List ℕ
expanded_tabs stop text = filled_parts stop (slice_split (λ b. b == tab) text)

-- a text without a tab is itself
abbrev pub expanded : ℕ → List ℕ → Line
expanded stop text =
    if list_any (λ b. b == tab) text then Built (expanded_tabs stop text) else Slice text
