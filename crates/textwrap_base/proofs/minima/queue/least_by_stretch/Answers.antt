use Rattle.textwrap_text.proofs.Common.{arith, length, rules, sym, ◌≡◌}
use Rattle.textwrap_base.proofs.{Common.cost_from, Search.least-first, Search.least-later}
use Rattle.textwrap_base.proofs.minima.queue.least_by_stretch.Goals.{Joined-stretch-end}
use Rattle.textwrap_base.proofs.minima.queue.least_by_stretch.Goals as goal

later : (g : _) (c : Joined-stretch-end g) → c.if-stretch-end.later
    ≡ cost_from (g.C.CostSource.costs c.args.costs.now) c.args.stretch.start
    (length c.args.minima.now)
later g c = search (rules, arith)

pub returns-then-later-first-clause-least : goal.returns-then-later-first-clause-least
returns-then-later-first-clause-least g c =
    let is = later g (goal.at.returns-then-later-first-clause-least g c).Joined-stretch-end in
    rw is (sym (least-later _ _ _ _ (omega (arith, c.requires.minima.some)) c.requires.within
    c.requires.best (omega (arith, is, c.price-first.ensures.price, c.if-later-first.true))))

pub returns-else-later-first-clause-least : goal.returns-else-later-first-clause-least
returns-else-later-first-clause-least g c =
    let is = later g (goal.at.returns-else-later-first-clause-least g c).Joined-stretch-end in
    rw c.price-first.ensures.price (sym (least-first _ _ _ _
    (omega (arith, c.requires.minima.some)) c.requires.within c.requires.best
    (omega (arith, is, c.price-first.ensures.price))))
