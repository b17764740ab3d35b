-- Fences of code.
use Rattle.std.specs.Prelude.{ℕ, ◌==◌, ◌&&◌, ◌||◌, Bool, false, not, nat_eq, nat_le, nat_lt, List}
use Rattle.std.specs.Prelude.{[]}
use Rattle.std.specs.Prelude.{◌∷◌, length, drop, slice_index, codes, bytes_eq, string_bytes}
use Rattle.std.specs.Prelude.{if◌then◌else◌, Option, Some, None}
use Rattle.std.specs.List.{prefix_len, starts_with}
use Rattle.textwrap_marked_lines.specs.Columns.{behind_white, marks_of}
use Rattle.textwrap_marks.specs.Signs.{any_contains, ends_code, first_word, opens_code}
use Rattle.textwrap_marks.specs.Words.{contains, has_byte, is_made_of, SpacedText}
use Rattle.textwrap_marked_lines.specs.declared.fences.Fence.{Fence}
use Rattle.textwrap_marked_lines.specs.declared.fences.FenceKind.{FenceKind}
use Rattle.textwrap_marked_lines.specs.declared.fences.FenceKind.TheVariants.{Attribute, Code}
use Rattle.textwrap_marked_lines.specs.declared.fences.FenceKind.TheVariants.{Formula, Pre, Run}
use Rattle.textwrap_marked_lines.specs.declared.fences.FenceRun.{FenceRun}

-- three or more backticks or tildes, which a word begins with
abbrev pub run_of : List ℕ → Option FenceRun
run_of word =
    let mark = slice_index word 0 in
    let len = prefix_len (λ c. c == mark) word in
    if (mark == 96 || mark == 126) && nat_lt 2 len
    then Some (record { mark = mark; len = len }) else None

abbrev pub has_pre : List SpacedText → Bool
has_pre words = any_contains (codes "<pre") words

abbrev pub has_pre_end : List SpacedText → Bool
has_pre_end words = any_contains (codes "</pre") words

-- a backtick behind so many bytes
abbrev pub has_backtick_behind : ℕ → List SpacedText → Bool
has_backtick_behind len words =
    has_byte 96 (drop len (first_word words))
    || any_contains (codes "`") (drop 1 words)

-- dollar signs that begin a formula, which ends in another line
abbrev pub opens_formula : List SpacedText → Bool
opens_formula [] = false
opens_formula (w ∷ ws) =
    if starts_with nat_eq w.word (codes "$$")
    then not (contains (codes "$$") (drop 2 w.word)) && not (any_contains (codes "$$") ws) else false

-- an attribute of Rust with three backticks or more, as `#[cfg_attr(unix, doc = "```")]`; behind `!` it
-- is one of the module or the crate that it stands in
abbrev pub opens_attribute : List SpacedText → Bool
opens_attribute words =
    (starts_with nat_eq (first_word words) (codes "#[")
    || starts_with nat_eq (first_word words) (codes "#!["))
    && any_contains (codes "```") words

-- the fence that these words open: behind backticks stands no other one
abbrev pub opened_by : Option FenceRun → List SpacedText → Option FenceKind
opened_by (Some run) words =
    if run.mark == 96 && has_backtick_behind run.len words then None else Some (Run run)
opened_by None words =
    if has_pre words && not (has_pre_end words) then Some Pre
    else if opens_code (first_word words) then Some Code
    else if opens_formula words then Some Formula
    else if opens_attribute words then Some Attribute else None

abbrev pub opened : List SpacedText → Option FenceKind
opened words = opened_by (run_of (first_word words)) words

-- a fence, behind these marks
pub record FenceText : Type 0 where
  pub marks : List ℕ
  pub kind : FenceKind

abbrev pub fence_view : Fence → FenceText
fence_view fence = record { marks = string_bytes fence.marks; kind = fence.kind }

-- as many of the character or more, and nothing else
abbrev pub is_long_run : FenceRun → List SpacedText → Bool
is_long_run run [] = false
is_long_run run (w ∷ []) = is_made_of run.mark w.word && nat_le run.len (length w.word)
is_long_run run (w ∷ v ∷ ws) = false

abbrev pub is_closed_by : FenceText → List ℕ → List SpacedText → Bool
is_closed_by fence hanging words = closes fence.kind
  where
    closes : FenceKind → Bool
    closes Pre = has_pre_end words
    closes Code = ends_code (first_word words)
    closes Formula = any_contains (codes "$$") words
    closes Attribute = is_long_run (record { mark = 96; len = 3 }) words
    closes (Run run) = bytes_eq (marks_of hanging) fence.marks && is_long_run run words

-- a line without the marks of a fence ends it
abbrev pub is_left_by : FenceText → List ℕ → Bool
is_left_by fence line = not (starts_with nat_eq (behind_white line) fence.marks)
