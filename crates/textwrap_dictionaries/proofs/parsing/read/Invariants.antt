use Rattle.textwrap_text.proofs.Common.{◌≡◌, drop, map}
use Rattle.textwrap_dictionaries.specs.Parsing.{parsed, reading_view, with_lines}
use Rattle.textwrap_dictionaries.proofs.parsing.read.Given as goal

-- what the lines that are left say comes to what all say
abbrev pub invariant-loop-i : goal.invariant-loop-i
invariant-loop-i g l =
    with_lines l.i l.section (map (λ line. line.now) (drop l.i l.line-items))
    (reading_view l.reading)
    ≡ parsed l.text
