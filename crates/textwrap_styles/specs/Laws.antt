-- The statements of the laws, each under a name that a caller can cite.
use Rattle.std.specs.Prelude.{◌≡◌, ◌≢◌, ℕ, false, true, ◌+◌, ◌*◌, ◌≤◌, List, [], ◌++◌, All}
use Rattle.std.specs.Prelude.{drop, filter, length, map, not}
use Rattle.std.specs.List.{concat, flat_map}
use Rattle.textwrap_layout.specs.Paragraph.{Slice, line_bytes}
use Rattle.textwrap_styles.specs.Indents.{after_indent}
use Rattle.textwrap_styles.specs.Pen.{Pen, apply, plain_pen, with_code}
use Rattle.textwrap_styles.specs.Penned.{penned_lines, penned_text, plain_rendition}
use Rattle.textwrap_styles.specs.Penned.{rendition_of}
use Rattle.textwrap_styles.specs.Settings.{is_color_code, is_end, is_ending_code, is_unknown}
use Rattle.textwrap_styles.specs.Settings.{kind_of, kind_of_code, open_settings}
use Rattle.textwrap_styles.specs.Styled.{EachWithIndent, EndsPlain, IsWholeText, MayCarry}
use Rattle.textwrap_styles.specs.Styles.{carried_line, carried_lines, is_link, link_end}
use Rattle.textwrap_styles.specs.Styles.{names_id}
use Rattle.textwrap_styles.specs.Styles.{open_styles, reopened_link, sequences, settings_of, style_end}
use Rattle.textwrap_text.specs.Units.{text_width}

-- ---- the table of the settings, by the pen

-- of the numbers, the table knows all that change a pen by themselves
abbrev pub NumbersAreKnown : Type 0
NumbersAreKnown =
    (code : ℕ) → is_unknown (kind_of_code code) ≡ true → (pen : Pen) → with_code code pen ≡ pen

-- and of those that stand by themselves, it takes all for ends that leave a plain pen plain
abbrev pub EndsAreKnown : Type 0
EndsAreKnown =
    (code : ℕ) → is_unknown (kind_of_code code) ≡ false → is_color_code code ≡ false
    → is_ending_code code ≡ false → with_code code plain_pen ≢ plain_pen

-- ---- what is open

-- set anew, it gives the pen and the link that all sequences before have given
abbrev pub StylesGiveThePen : Type 0
StylesGiveThePen =
    (before : List (List ℕ))
    → rendition_of (reopened_link before ++ open_styles before) ≡ rendition_of before

-- and it is open again, those settings too that the table does not know
abbrev pub StylesAreSetAnew : Type 0
StylesAreSetAnew =
    (before : List (List ℕ)) → open_styles (open_styles before) ≡ open_styles before

-- the link that is set anew has an id, and the same one until another link is set or ended
abbrev pub LinksKeepAnId : Type 0
LinksKeepAnId =
    (before more : List (List ℕ))
    → All (λ s. names_id (drop 4 s) ≡ true) (reopened_link before)
    × (filter is_link more ≡ [] → reopened_link (before ++ more) ≡ reopened_link before)

-- of the settings that are open, those that the table knows, and the others
abbrev pub known_settings : List (List ℕ) → List (List ℕ)
known_settings before =
    filter (λ s. not (is_unknown (kind_of s))) (open_settings (flat_map settings_of before))

abbrev pub unknown_settings : List (List ℕ) → List (List ℕ)
unknown_settings before =
    filter (λ s. is_unknown (kind_of s)) (open_settings (flat_map settings_of before))

-- of those that it knows there are at most 17
abbrev pub StylesAreFew : Type 0
StylesAreFew = (before : List (List ℕ)) → length (known_settings before) ≤ 17

-- those of them that end nothing
abbrev pub setters : List (List ℕ) → List (List ℕ)
setters before = filter (λ s. not (is_end s)) (known_settings before)

-- they are all that are open, if the table knows all
abbrev pub OpenStylesAreSetters : Type 0
OpenStylesAreSetters =
    (before : List (List ℕ)) → unknown_settings before ≡ []
    → setters before ≡ open_settings (flat_map settings_of before)

-- a setting that the table does not know changes no pen
abbrev pub NothingIfUnknown : List ℕ → Type 0
NothingIfUnknown s = is_unknown (kind_of s) ≡ true → (pen : Pen) → apply s pen ≡ pen

-- if so, no sequences of fewer settings give the pen
abbrev pub NothingShorterGivesThePen : Type 0
NothingShorterGivesThePen =
    (before others : List (List ℕ))
    → All NothingIfUnknown (open_settings (flat_map settings_of before))
    → All NothingIfUnknown (flat_map settings_of others)
    → (rendition_of others).pen ≡ (rendition_of before).pen
    → length (setters before) ≤ length (flat_map settings_of others)

-- ---- lines whose styles are carried

-- each visible character has the pen and the link that it has in the text, where each line begins
-- plain
abbrev pub CarriedLinesKeepPens : Type 0
CarriedLinesKeepPens =
    (indent later : List ℕ) (lines : List (List ℕ)) → EachWithIndent MayCarry indent later lines
    → map (λ l. penned_text plain_rendition (line_bytes l)) (carried_lines indent later [] lines)
    ≡ penned_lines indent later plain_rendition lines

-- and each line ends plain
abbrev pub CarriedLinesEndPlain : Type 0
CarriedLinesEndPlain =
    (indent later : List ℕ) (lines : List (List ℕ)) → EachWithIndent MayCarry indent later lines
    → All (λ l. EndsPlain (line_bytes l)) (carried_lines indent later [] lines)

-- lines without indents, each read by itself, show what the text shows that they join to
abbrev pub CarriedLinesShowTheirText : Type 0
CarriedLinesShowTheirText =
    (lines : List (List ℕ)) → All IsWholeText lines
    → flat_map (λ l. penned_text plain_rendition (line_bytes l)) (carried_lines [] [] [] lines)
    ≡ penned_text plain_rendition (concat lines)

-- each line is as wide as it was
abbrev pub CarriedLinesAreAsWide : Type 0
CarriedLinesAreAsWide =
    (indent later : List ℕ) (lines : List (List ℕ)) → EachWithIndent MayCarry indent later lines
    → map (λ l. text_width (line_bytes l)) (carried_lines indent later [] lines)
    ≡ map text_width lines

-- whole lines may carry styles under whole indents that end plain
abbrev pub WholeLinesMayCarry : Type 0
WholeLinesMayCarry =
    (indent later : List ℕ) (lines : List (List ℕ))
    → IsWholeText indent → EndsPlain indent → IsWholeText later → EndsPlain later
    → All IsWholeText lines → EachWithIndent MayCarry indent later lines

-- lines whose texts have no escape sequence stay as they are
abbrev pub PlainLinesStay : Type 0
PlainLinesStay =
    (indent later : List ℕ) (lines : List (List ℕ))
    → EachWithIndent (λ i line. sequences (after_indent i line) ≡ []) indent later lines
    → carried_lines indent later [] lines ≡ map Slice lines

-- a line is longer by at most so many sequences as these, a link and the unknown settings, each as
-- long as the longest of the sequences before, an id, and what ends it
abbrev pub CarriedLinesAreShort : Type 0
CarriedLinesAreShort =
    (indent : List ℕ) (before : List (List ℕ)) (line : List ℕ) (most : ℕ)
    → All (λ s. length s ≤ most) before
    → length (line_bytes (carried_line indent before line))
    ≤ length line + (18 + length (unknown_settings before)) * most + 25 + length style_end
    + length link_end
