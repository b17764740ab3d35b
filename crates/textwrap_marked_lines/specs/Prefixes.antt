-- The prefix of a line.
use Rattle.std.specs.Prelude.{ℕ, ◌+◌, Bool, List, [], ◌∷◌, drop, suc, if◌then◌else◌, codes, bytes_eq}
use Rattle.std.specs.Prelude.{◌&&◌, false}
use Rattle.textwrap_marks.specs.Marks.{is_bullet, is_comment_at, is_quote}
use Rattle.textwrap_marks.specs.Words.{has_bytes, SpacedText}
use Rattle.textwrap_marks.specs.declared.options.ReflowOptions.{ReflowOptions}
use Rattle.textwrap_marked_lines.specs.declared.prefixes.PrefixEnds.{PrefixEnds}

-- ---- how many words are of each kind

-- the white before all words
abbrev pub lead_len : List SpacedText → ℕ
lead_len [] = 0
lead_len (w ∷ ws) = if has_bytes w.word then 0 else 1

-- at most one comment mark
abbrev pub comment_len : ReflowOptions → Bool → List SpacedText → ℕ
comment_len options in_block [] = 0
comment_len options in_block (w ∷ ws) = if is_comment_at options in_block w.word then 1 else 0

-- quote marks
abbrev pub quotes_len : List SpacedText → ℕ
quotes_len [] = 0
quotes_len (w ∷ ws) = if is_quote w.word then suc (quotes_len ws) else 0

-- `[ ]`
abbrev pub is_box : SpacedText → SpacedText → Bool
is_box w v =
    bytes_eq w.word (codes "[") && bytes_eq w.white (codes " ") && bytes_eq v.word (codes "]")

-- a word begins one, with the first of these
abbrev pub begins_box : SpacedText → List SpacedText → Bool
begins_box w [] = false
begins_box w (v ∷ ws) = is_box w v

-- bullets
abbrev pub bullets_len : List SpacedText → ℕ
bullets_len [] = 0
bullets_len (w ∷ []) = if is_bullet w.word then 1 else 0
bullets_len (w ∷ v ∷ ws) =
    if is_bullet w.word then suc (bullets_len (v ∷ ws))
    else if is_box w v then suc (suc (bullets_len ws)) else 0

-- where each kind ends
abbrev pub prefix_ends : ReflowOptions → Bool → List SpacedText → PrefixEnds
prefix_ends options in_block words =
    let lead = lead_len words in
    let comment = lead + comment_len options in_block (drop lead words) in
    let margin = comment + quotes_len (drop comment words) in
    record {
      lead = lead;
      comment = comment;
      margin = margin;
      text = margin + bullets_len (drop margin words);
    }
