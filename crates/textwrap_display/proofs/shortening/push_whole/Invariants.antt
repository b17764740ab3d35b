use Rattle.textwrap_display.proofs.shortening.push_whole.Given as goal
use Rattle.textwrap_display.proofs.Common.{Slice, line_view, texts_of}
use Rattle.textwrap_text.proofs.Common.{map, take, ◌++◌, ◌≡◌}

-- the lines so far were added
abbrev pub invariant-loop-line : goal.invariant-loop-line
invariant-loop-line g l = map line_view l.short.items
    ≡ map line_view l.fn.short.items ++ map Slice (texts_of (take l.line-index l.lines))
