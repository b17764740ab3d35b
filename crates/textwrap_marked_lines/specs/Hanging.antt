-- The hanging form of a prefix.
use Rattle.std.specs.Prelude.{ℕ, Bool, List, ◌++◌, take, slice_range, replicate, if◌then◌else◌, codes}
use Rattle.std.specs.List.{flat_map, list_any}
use Rattle.textwrap_text.specs.Units.{text_width}
use Rattle.textwrap_marks.specs.Marks.{is_comment_opening}
use Rattle.textwrap_marks.specs.Words.{spaced_text, SpacedText}
use Rattle.textwrap_marked_lines.specs.declared.prefixes.PrefixEnds.{PrefixEnds}

abbrev pub blanks : ℕ → List ℕ
blanks n = replicate n 32

-- ` *` for an opening, or blanks where block comments are bare
abbrev pub hanging_mark : Bool → List ℕ → List ℕ
hanging_mark bare word =
    if is_comment_opening word then (if bare then blanks (text_width word) else codes " *") else word

abbrev pub hanging_comments : Bool → List SpacedText → List ℕ
hanging_comments bare words = flat_map (λ w. hanging_mark bare w.word ++ w.white) words

-- each bullet as blanks, as wide as it is
abbrev pub hanging_bullets : List SpacedText → List ℕ
hanging_bullets words = flat_map (λ w. blanks (text_width w.word) ++ w.white) words

-- the hanging form of white, a comment mark and quote marks
abbrev pub hanging_margin : Bool → PrefixEnds → List SpacedText → List ℕ
hanging_margin bare ends words =
    spaced_text (take ends.lead words)
    ++ hanging_comments bare (slice_range words ends.lead ends.comment)
    ++ spaced_text (slice_range words ends.comment ends.margin)

abbrev pub hanging_prefix : Bool → PrefixEnds → List SpacedText → List ℕ
hanging_prefix bare ends words =
    hanging_margin bare ends words ++ hanging_bullets (slice_range words ends.margin ends.text)

-- the comment mark is an opening
abbrev pub has_opening : PrefixEnds → List SpacedText → Bool
has_opening ends words =
    list_any (λ w. is_comment_opening w.word) (slice_range words ends.lead ends.comment)
