use Rattle.std.proofs.Common.{◌≡◌, ◌++◌, length, map}
use Rattle.text_files.specs.Differences.{text_lines}
use Rattle.text_files.proofs.differences.lines_of.Given as goal

-- with those of the rest, the lines so far are all
abbrev pub invariant-loop-rest : goal.invariant-loop-rest
invariant-loop-rest g l =
    map (λ line. line.now) l.lines.items ++ text_lines l.rest ≡ text_lines l.text

abbrev pub decreases-loop-rest : goal.decreases-loop-rest
decreases-loop-rest g l = length l.rest
