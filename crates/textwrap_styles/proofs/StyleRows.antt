-- Worked rows: what parameters do to the plain pen, and what sequences leave open (`\u{1b}` is ESC).
use lib.Utf8.{encode}
use Rattle.std.specs.Str.{chars}
use Rattle.textwrap_styles.proofs.Common.{apply, has_target, is_link, is_style, open_settings, open_styles}
use Rattle.textwrap_styles.proofs.Common.{Pen, penned_lines, plain_pen, plain_rendition, Rendition, settings}
use Rattle.textwrap_styles.specs.Pen.{color_of, Direct, Indexed, is_whole_color, Other, with_code, with_color}
use Rattle.textwrap_styles.specs.{Pen.{with_field, with_parts}, Penned.PennedCharacter, Settings.code}
use Rattle.textwrap_styles.specs.Settings.{color_fields, details, first_setting, is_color_code, is_end}
use Rattle.textwrap_styles.specs.Settings.{is_ending_code, is_unknown, kind_of, kind_of_code, number}
use Rattle.textwrap_styles.specs.Settings.{replaces, taken_fields, takes_back}
use Rattle.textwrap_text.proofs.Common.{[], ℕ, ◌++◌, ◌∷◌, ◌≡◌, codes, false, List, map, refl, true}

-- the pens that parameters give, where nothing is set before them
abbrev Give : List (List ℕ × Pen) → Type 0
Give rows = map (λ row. apply row.0 plain_pen) rows ≡ map (λ row. row.1) rows

-- what each end ends, 0 and no parameter all; what is unknown is passed over
ended : Give ((codes "1;2;3;22", record plain_pen { italic = true })
    ∷ (codes "31;42;39", record plain_pen { background = Indexed 2 })
    ∷ (codes "31;42;49", record plain_pen { foreground = Indexed 1 })
    ∷ (codes "4;58;5;9;24", record plain_pen { underline_color = Indexed 9 })
    ∷ (codes "21;58;5;9;59", record plain_pen { underline = 2 })
    ∷ (codes "4:3", record plain_pen { underline = 3 }) ∷ (codes "4:3;4:0", plain_pen)
    ∷ (codes "4:3;4:0:3", plain_pen) ∷ (codes "1;4:3;38;5;1;0;53", record plain_pen { overlined = true })
    ∷ (codes "1;;53", record plain_pen { overlined = true })
    ∷ (codes "1:2;56;200;31", record plain_pen { foreground = Indexed 1 }) ∷ (codes "99;39", plain_pen)
    ∷ (codes "1;26;22", plain_pen) ∷ []) × (apply [] (apply (codes "1;31") plain_pen) ≡ plain_pen)
unfolding with_field with_code with_parts is_whole_color with_color color_of
ended = (refl, refl)

-- colours of the table and by red, green and blue; one that is not whole takes what follows
colors : Give ((codes "38;5;196;1", record plain_pen { foreground = Indexed 196; bold = true })
    ∷ (codes "48;2;1;2;3;7", record plain_pen { background = Direct 1 2 3; inverse = true })
    ∷ (codes "38:2::1:2:3;58:5:7", record plain_pen { underline_color = Indexed 7; foreground = Direct 1 2 3 })
    ∷ (codes "48:2:4:5:6", record plain_pen { background = Direct 4 5 6 })
    ∷ (codes "38:3:1:2:3", record plain_pen { foreground = Other (3 ∷ 1 ∷ 2 ∷ 3 ∷ []) })
    ∷ (codes "1;38;2;31", record plain_pen { bold = true })
    ∷ (codes "91;102", record plain_pen { foreground = Indexed 9; background = Indexed 10 }) ∷ [])
unfolding with_field with_code with_parts is_whole_color with_color color_of
colors = refl

-- the others, each set and ended
others-set : Give ((codes "3;20;6", record plain_pen { italic = true; gothic = true; blink = 2 })
    ∷ (codes "8;9;12;52", record plain_pen { hidden = true; crossed_out = true; font = 2; framed = 2 })
    ∷ (codes "7;53;2", record plain_pen { inverse = true; overlined = true; faint = true })
    ∷ (codes "3;20;6;7;8;9;12;52;53;2;23;25;27;28;29;10;54;55;22", plain_pen) ∷ [])
unfolding with_field with_code
others-set = refl

-- an end is open behind what the table does not know; of an attribute the last setting is open
left-open : (open_settings (settings (codes "4:3;4:0:3;38:5:1;39;48:5:1;49;58:2:1:2:3;59;38;5;1;39"
    ++ codes ";48;2;1;2;3;49;58;5;1;59")) ≡ [])
    × (open_settings (codes "99" ∷ codes "39" ∷ []) ≡ codes "99" ∷ codes "39" ∷ [])
    × (open_settings (codes "1" ∷ codes "26;22" ∷ []) ≡ codes "1" ∷ codes "26;22" ∷ [])
    × (open_styles (codes "\u{1b}[1;31m" ∷ codes "\u{1b}[32m" ∷ codes "\u{1b}[22m" ∷ [])
    ≡ codes "\u{1b}[32m" ∷ [])
    × (is_style (codes "\u{1b}[1m") ≡ true) × (is_link (codes "\u{1b}]8;id=1;http://x\u{7}") ≡ true)
    × (has_target (codes "\u{1b}]8;;\u{1b}\\") ≡ false)
unfolding first_setting taken_fields code details kind_of kind_of_code is_color_code is_unknown color_fields takes_back replaces is_end is_ending_code number
left-open = (refl, refl, refl, refl, refl, refl, refl)

-- the indent shows nothing of the styles; a link goes on as its address
abbrev shown : ℕ → Rendition → PennedCharacter
shown c now = record { character = c; rendition = now }

indent-shown : penned_lines (codes ">") (codes ">") plain_rendition
    (codes ">\u{1b}[1m\u{1b}]8;;x\u{7}a" ∷ codes ">b" ∷ [])
    ≡ (let bold : Rendition = record { pen = record plain_pen { bold = true }; link = codes "x" } in
    (shown 62 plain_rendition ∷ shown 97 bold ∷ []) ∷ (shown 62 plain_rendition ∷ shown 98 bold ∷ []) ∷ [])
unfolding chars encode with_field with_code
indent-shown = refl
