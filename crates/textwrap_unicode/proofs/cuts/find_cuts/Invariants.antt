use Rattle.textwrap_text.proofs.ClassNames.{◌-◌, drop, length}
use Rattle.textwrap_unicode.proofs.cuts.find_cuts.Given as goal
use Rattle.textwrap_unicode.proofs.CutLemmas.{IsCutting}

abbrev pub invariant-loop-ch : goal.invariant-loop-ch
invariant-loop-ch l = IsCutting l.numbers l.line l.at (drop l.at l.line) l.state l.before l.end
    l.is_hyphen l.cuts.items

abbrev pub decreases-loop-ch : goal.decreases-loop-ch
decreases-loop-ch l = length l.line - l.at
