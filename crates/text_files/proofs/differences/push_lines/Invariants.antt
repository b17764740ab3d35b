use Rattle.textwrap_text.proofs.Common.{◌≡◌, ◌++◌, map, take, flat_map}
use Rattle.text_files.specs.Differences.{line_text, signed_view}
use Rattle.text_files.proofs.differences.push_lines.Given as goal

-- the lines so far were added
abbrev pub invariant-loop-line : goal.invariant-loop-line
invariant-loop-line g l =
    l.text.items
    ≡ l.initial.text.items ++ flat_map line_text (map signed_view (take l.line-index l.lines))
