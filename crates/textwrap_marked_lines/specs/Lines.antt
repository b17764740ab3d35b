-- The lines of a text: what is read of one, and what is open behind it.
use Rattle.std.specs.Prelude.{ℕ, ◌-◌, ◌==◌, ◌&&◌, ◌||◌, Bool, false, not, nat_eq, nat_lt, List}
use Rattle.std.specs.Prelude.{[]}
use Rattle.std.specs.Prelude.{◌∷◌, length, take, drop, codes, bytes_eq, string_bytes}
use Rattle.std.specs.Prelude.{if◌then◌else◌, Option, Some, None, is_some}
use Rattle.std.specs.List.{ends_with, list_any, slice_split, starts_with, suffix_len}
use Rattle.std.specs.Option.{option_map}
use Rattle.textwrap_marked_lines.specs.Columns.{behind_white, depth_of, DepthText, depth_view, is_deeper}
use Rattle.textwrap_marked_lines.specs.Columns.{marks_of}
use Rattle.textwrap_marked_lines.specs.Fences.{FenceText, fence_view, is_closed_by, is_left_by, opened}
use Rattle.textwrap_marked_lines.specs.Prefixes.{prefix_ends}
use Rattle.textwrap_marked_lines.specs.Hanging.{hanging_margin, hanging_prefix, has_opening}
use Rattle.textwrap_marks.specs.Signs.{begins_text, closes_block, closes_early, deeper_by, first_word}
use Rattle.textwrap_marks.specs.Signs.{has_columns, is_key, is_rule, last_white, last_word, opens_session}
use Rattle.textwrap_marks.specs.Words.{has_byte, has_bytes, spaced_text, SpacedText}
use Rattle.textwrap_marks.specs.Words.{spaced_words}
use Rattle.textwrap_marked_lines.specs.declared.line.MarkedLine.{MarkedLine}
use Rattle.textwrap_marks.specs.declared.options.ReflowOptions.{ReflowOptions}
use Rattle.textwrap_marked_lines.specs.declared.prefixes.PrefixEnds.{PrefixEnds}
use Rattle.textwrap_marked_lines.specs.declared.states.ReadState.{ReadState}

-- ---- a line

-- a line with the carriage returns at its end, whether a line feed follows, its prefix, the hanging
-- form of that, and the words of its text
pub record LineText : Type 0 where
  pub raw : List ℕ
  pub fed : Bool
  pub prefix : List ℕ
  pub hanging : List ℕ
  pub words : List SpacedText
  -- it is, or begins, in a block comment that has no mark of its own here
  pub starred : Bool
  -- it leaves a block comment open
  pub opens_block : Bool
  -- it is deeper than the text before
  pub deeper : Bool
  -- it stays, and belongs to no paragraph
  pub apart : Bool
  -- it begins with a key, and has no bullet
  pub field : Bool
  -- the next line begins another paragraph
  pub ended : Bool
  -- its marks are among those that are filled
  pub chosen : Bool

abbrev pub marked_line_view : MarkedLine → LineText
marked_line_view l = record {
  raw = l.raw.now;
  fed = l.fed;
  prefix = l.prefix.now;
  hanging = string_bytes l.hanging;
  words = spaced_words l.text.now;
  starred = l.starred;
  opens_block = l.opens_block;
  deeper = l.deeper;
  apart = l.apart;
  field = l.field;
  ended = l.ended;
  chosen = l.chosen;
}

-- ---- what is open

-- a block comment, a fence, a prompt; how deep the last text stood that was not fenced or deeper, if
-- there was one, and by how many columns text is deeper
pub record StateText : Type 0 where
  pub in_block : Bool
  pub fence : Option FenceText
  pub prompted : Bool
  pub before : Option DepthText
  pub by : ℕ

abbrev pub state_view : ReadState → StateText
state_view s = record {
  in_block = s.in_block;
  fence = option_map fence_view s.fence;
  prompted = s.prompted;
  before = option_map depth_view s.before;
  by = s.by;
}

abbrev pub first_state : StateText
first_state = record { in_block = false; fence = None; prompted = false; before = None; by = 4 }

-- the fence that is still open at a line
abbrev pub fence_at : Option FenceText → List ℕ → Option FenceText
fence_at None line = None
fence_at (Some fence) line = if is_left_by fence line then None else Some fence

abbrev pub entered : StateText → List ℕ → StateText
entered state line = record state { fence = fence_at state.fence line }

abbrev pub has_words : List SpacedText → Bool
has_words words = not (length words == 0)

-- the fence that a line opens, if it does
abbrev pub opened_fence : LineText → Option FenceText
opened_fence line =
    if line.deeper then None
    else option_map (λ kind. record { marks = marks_of line.hanging; kind = kind }) (opened line.words)

abbrev pub new_fence : Option FenceText → LineText → Option FenceText
new_fence (Some fence) line =
    if is_closed_by fence line.hanging line.words then None else Some fence
new_fence None line = opened_fence line

-- the line is the text before later lines
abbrev pub is_before : Bool → LineText → Bool
is_before fenced line = not fenced && not line.deeper && has_words line.words

abbrev pub new_before : Option DepthText → Bool → LineText → Option DepthText
new_before before is_before line = if is_before then Some (depth_of line.hanging) else before

abbrev pub new_by : ℕ → Bool → LineText → ℕ
new_by by is_before line = if is_before then deeper_by line.hanging line.words else by

abbrev pub is_in_block : Bool → Bool → LineText → Bool
is_in_block in_block fenced line =
    if in_block then not (closes_block line.words) else not fenced && line.opens_block

abbrev pub is_prompted : Bool → Bool → List SpacedText → Bool
is_prompted prompted fenced words = has_words words && (prompted || (not fenced && opens_session words))

-- what is open behind a line
abbrev pub passed : StateText → LineText → StateText
passed state line =
    let fenced = is_some state.fence in
    let before = is_before fenced line in
    record {
      in_block = is_in_block state.in_block fenced line;
      fence = new_fence state.fence line;
      prompted = is_prompted state.prompted fenced line.words;
      before = new_before state.before before line;
      by = new_by state.by before line;
    }

-- ---- what is read of a line

-- where no text of Markdown stands before behind the same marks, code is four columns behind the
-- beginning of the line, or behind the marks of a quote and one blank
abbrev pub begins_code : DepthText → Bool
begins_code own = if has_bytes own.marks then nat_lt 4 own.behind else nat_lt 3 own.lead

abbrev pub is_deep : ReflowOptions → StateText → List ℕ → Bool
is_deep options state margin =
    if options.indented then false else deeper state.before
  where
    deeper : Option DepthText → Bool
    deeper None = options.markdown && begins_code (depth_of margin)
    deeper (Some before) =
        is_deeper state.by before (depth_of margin)
        || (options.markdown && begins_code (depth_of margin)
        && not (bytes_eq before.marks (marks_of margin)))

-- by its words alone
abbrev pub stands_apart : Bool → Bool → Bool → Bool → List SpacedText → Bool
stands_apart justify in_block starred field words =
    not (begins_text starred (first_word words)) || has_columns justify words
    || (field && has_byte 45 (first_word words))
    || (in_block && closes_block words && closes_early words)

-- it ends in a backslash or two blanks, or ends a block comment
abbrev pub is_ended : Bool → List SpacedText → Bool
is_ended in_block words =
    ends_with nat_eq (last_word words) (codes "\\")
    || ends_with nat_eq (last_white words) (codes "  ") || (in_block && closes_block words)

-- no prefixes are named, or the margin begins with one of them
abbrev pub is_chosen : ReflowOptions → List ℕ → Bool
is_chosen options margin =
    length options.prefixes.now == 0
    || list_any (λ p. starts_with nat_eq (behind_white margin) p.now) options.prefixes.now

abbrev pub is_return : ℕ → Bool
is_return c = c == 13

-- without the carriage returns at its end
abbrev pub without_returns : List ℕ → List ℕ
without_returns raw = take (length raw - suffix_len is_return raw) raw

-- a line of these words, where this is open
abbrev pub line_from_words : ReflowOptions → StateText → List ℕ → Bool → List SpacedText → PrefixEnds
    → LineText
line_from_words options state raw fed all ends =
    let words = drop ends.text all in
    let margin = hanging_margin options.bare ends all in
    let opening = has_opening ends all in
    let in_block = state.in_block || opening in
    let starred = in_block && not (has_byte 42 margin) in
    let field = is_key (first_word words) && ends.margin == ends.text in
    let deeper = is_deep options state margin in
    record {
      raw = raw;
      fed = fed;
      prefix = spaced_text (take ends.text all);
      hanging = hanging_prefix options.bare ends all;
      words = words;
      starred = starred;
      opens_block = opening && not (closes_block words);
      deeper = deeper;
      apart =
          is_some state.fence || deeper || state.prompted
          || stands_apart options.justify in_block starred field words;
      field = field;
      ended = is_ended in_block words;
      chosen = is_chosen options (spaced_text (take ends.margin all));
    }

-- a line, where this is open
abbrev pub line_as_read : ReflowOptions → StateText → List ℕ → Bool → LineText
line_as_read options state raw fed =
    let all = spaced_words (without_returns raw) in
    line_from_words options state raw fed all (prefix_ends options state.in_block all)

-- ---- the lines of a text

-- the lines between line feeds, where this is open before them
abbrev pub read_lines : ReflowOptions → StateText → List (List ℕ) → List LineText
read_lines options state [] = []
read_lines options state (raw ∷ parts) =
    let at = entered state (without_returns raw) in
    let line = line_as_read options at raw (nat_lt 0 (length parts)) in
    line ∷ read_lines options (passed at line) parts

-- the next line is a rule behind the hanging form of this one
abbrev pub is_title : LineText → LineText → Bool
is_title line next = is_rule next.words && bytes_eq next.prefix line.hanging

abbrev pub as_title : Bool → LineText → LineText
as_title is line = record line { apart = line.apart || is }

-- titles stand apart
abbrev pub with_titles : List LineText → List LineText
with_titles [] = []
with_titles (line ∷ []) = line ∷ []
with_titles (line ∷ next ∷ lines) =
    as_title (is_title line next) line ∷ with_titles (next ∷ lines)

abbrev pub lines_of_text : ReflowOptions → List ℕ → List LineText
lines_of_text options text =
    with_titles (read_lines options first_state (slice_split (λ c. c == 10) text))
