-- Styles and links that go on over the ends of lines: each line sets anew what is open where it
-- begins, and ends plain.
use Rattle.std.specs.Prelude.{ℕ, ◌-◌, Bool, ◌&&◌, ◌||◌, ◌==◌, nat_eq, nat_lt, List, [], ◌∷◌, ◌++◌}
use Rattle.std.specs.Prelude.{length, take, drop, filter, chars, encode_utf8_all, codes}
use Rattle.std.specs.Prelude.{decimal, if◌then◌else◌, map}
use Rattle.std.specs.Int.{is_in_range}
use Rattle.std.specs.List.{after_first, before_first, concat, ends_with, flat_map, list_all}
use Rattle.std.specs.List.{list_any, slice_split, starts_with}
use Rattle.std.specs.declared.borrow.CowStr.{CowStr}
use Rattle.textwrap_text.specs.LentText.{as_len}
use Rattle.textwrap_text.specs.Units.{TextUnit, Visible, Sequence, units}
use Rattle.textwrap_layout.specs.Paragraph.{Line, Built, Slice, line_bytes, line_view}
use Rattle.textwrap_styles.specs.Indents.{after_indent, before_text}
use Rattle.textwrap_styles.specs.Settings.{open_settings, settings}

-- the texts of lines
abbrev pub texts_of : {Z : Type 0} → List (CowStr Z) → List (List ℕ)
texts_of lines = map line_bytes (map line_view lines)

-- the escape sequences of a text, in their order
abbrev pub sequence_of : TextUnit → List (List ℕ)
sequence_of (Visible c) = []
sequence_of (Sequence cs) = encode_utf8_all cs ∷ []

abbrev pub sequences : List ℕ → List (List ℕ)
sequences text = flat_map sequence_of (units (chars text))

-- ---- what a sequence does

-- ESC and `[`, digits, colons or semicolons, and `m` are a style
abbrev pub style_parameters : List ℕ → List ℕ
style_parameters sequence = take (length sequence - 3) (drop 2 sequence)

abbrev pub is_style : List ℕ → Bool
is_style sequence =
    starts_with nat_eq sequence (codes "\u{1b}[") && ends_with nat_eq sequence (codes "m")
    && list_all (is_in_range 0x30 0x3B) (style_parameters sequence)

-- ESC and `]8;`, parameters, a semicolon, a target, and the end of a command set a link, or end one
-- where the target is empty
abbrev pub link_fields : List ℕ → List ℕ
link_fields sequence =
    let end = if ends_with nat_eq sequence (codes "\u{7}") then 1 else 2 in
    take (length sequence - 4 - end) (drop 4 sequence)

abbrev pub is_link : List ℕ → Bool
is_link sequence =
    starts_with nat_eq sequence (codes "\u{1b}]8;")
    && (ends_with nat_eq sequence (codes "\u{7}") || ends_with nat_eq sequence (codes "\u{1b}\\"))
    && list_any (λ c. c == 0x3B) (link_fields sequence)

abbrev pub link_target : List ℕ → List ℕ
link_target sequence = after_first (λ c. c == 0x3B) (link_fields sequence)

abbrev pub has_target : List ℕ → Bool
has_target sequence = nat_lt 0 (length (link_target sequence))

-- whether one of the parameters is an id: colons part them, and the first semicolon ends them
abbrev pub names_id : List ℕ → Bool
names_id fields =
    let parameters = slice_split (λ c. c == 0x3A) (before_first (λ c. c == 0x3B) fields) in
    list_any (λ parameter. starts_with nat_eq parameter (codes "id=")) parameters

-- the parameter that is the id of this number, before the others
abbrev pub id_before : ℕ → List ℕ → List ℕ
id_before number fields =
    codes "id=w" ++ decimal number
    ++ (if starts_with nat_eq fields (codes ";") then [] else codes ":")

-- the link with this number as its id, if it has none: parts with one id are one link of a terminal
unfoldable pub with_id : ℕ → List ℕ → List ℕ
with_id number link =
    let fields = drop 4 link in
    if names_id fields then link else take 4 link ++ id_before number fields ++ fields

-- the settings of a style
abbrev pub settings_of : List ℕ → List (List ℕ)
settings_of sequence = if is_style sequence then settings (style_parameters sequence) else []

-- the sequence that is this one setting
abbrev pub written : List ℕ → List ℕ
written setting = codes "\u{1b}[" ++ setting ++ codes "m"

-- ---- what is open after such sequences

-- the settings that are open, each as the sequence that sets it
abbrev pub open_styles : List (List ℕ) → List (List ℕ)
open_styles before = map written (open_settings (flat_map settings_of before))

-- the last link, if it has a target
abbrev pub open_link : List (List ℕ) → List (List ℕ)
open_link before =
    let links = filter is_link before in filter has_target (drop (length links - 1) links)

-- that link, as a line sets it anew: by the number of links so far, if it has no id
abbrev pub reopened_link : List (List ℕ) → List (List ℕ)
reopened_link before = map (with_id (as_len (length (filter is_link before)))) (open_link before)

abbrev pub style_end : List ℕ
style_end = codes "\u{1b}[0m"

abbrev pub link_end : List ℕ
link_end = codes "\u{1b}]8;;\u{1b}\\"

-- ---- the lines

-- what sets anew what is open, and what ends it
abbrev pub opening : List (List ℕ) → List ℕ
opening before = concat (reopened_link before) ++ concat (open_styles before)

abbrev pub closing : List (List ℕ) → List ℕ
closing before =
    (if length (open_styles before) == 0 then [] else style_end)
    ++ (if length (open_link before) == 0 then [] else link_end)

-- the line, which sets anew after its indent what is open after these sequences, and ends plain
abbrev pub carried_line : List ℕ → List (List ℕ) → List ℕ → Line
carried_line indent before line =
    let text = after_indent indent line in
    let start = opening before in
    let end = closing (before ++ sequences text) in
    if length (start ++ end) == 0 then Slice line
    else Built (before_text indent line ++ start ++ text ++ end)

-- the lines, of which the first has this indent and the others the later one
abbrev pub carried_lines : List ℕ → List ℕ → List (List ℕ) → List (List ℕ) → List Line
carried_lines indent later before [] = []
carried_lines indent later before (line ∷ lines) =
    carried_line indent before line
    ∷ carried_lines later later (before ++ sequences (after_indent indent line)) lines
