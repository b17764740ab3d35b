use Rattle.textwrap_text.proofs.Common.{arith, cases_lt, rules}
use Rattle.textwrap_base.proofs.Division.Greedy.{closed_width-next}
use Rattle.textwrap_base.proofs.minima.queue_case.closed_widths_never_fall.Goals as goal

pub returns-then-gained-penalty_width : goal.returns-then-gained-penalty_width
returns-then-gained-penalty_width g c = grind (arith, closed_width-next)

pub loop-last-preserved : goal.loop-last-preserved
loop-last-preserved g c =
    let next = closed_width-next g.T.Fragment.sizes c.args.fragments.now c.loop-last.last
    c.index-fragments-last.result c.index-fragments-last-in-loop-last.result (omega arith)
    (omega arith) c.index-fragments-last.is c.index-fragments-last-in-loop-last.is in
    search (rules, arith, cases_lt)
