use Rattle.textwrap_lines.proofs.steps.are_inner_cuts.Given as goal
use Rattle.textwrap_lines.proofs.Common.{drop, ◌↔◌}
use Rattle.textwrap_words.specs.Cuts.{AreInnerCuts, AreLaterCuts}

-- the cuts are right just if those that are left may follow the last one
abbrev pub invariant-loop-cut : goal.invariant-loop-cut
invariant-loop-cut l =
    AreInnerCuts l.text l.cuts ↔ AreLaterCuts l.last l.text (drop l.cut-index l.cuts)
