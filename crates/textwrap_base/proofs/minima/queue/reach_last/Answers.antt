use Rattle.textwrap_text.proofs.Common.{arith, length, refl, rules, subst, sym, vec_len, ◌*◌, ◌+◌}
use Rattle.textwrap_text.proofs.Common.{◌-◌, ◌∙◌, ◌≡◌, ◌≤◌}
use Rattle.textwrap_base.proofs.Common.{AreMinima, AreStretches, binary_digits, HasEnd, IsPriced}
use Rattle.textwrap_base.proofs.Search.{AreStretches-drop, AreStretches-one, stretch_at-read}
use Rattle.textwrap_base.proofs.Search.{AreMinima-push, steps_more, steps_within}
use Rattle.textwrap_base.proofs.minima.queue.reach_last.Goals.{After-next_stretch-current}
use Rattle.textwrap_base.proofs.minima.queue.reach_last.Goals.{After-take_in, In_ok-push-3}
use Rattle.textwrap_base.proofs.minima.queue.reach_last.Goals as goal

pub next_stretch-current-requires-clause-rising : goal.next_stretch-current-requires-clause-rising
next_stretch-current-requires-clause-rising g c = c.loop-stretches.invariant.stretches.rising

-- the stretches of the starts so far, and that of the next end
gone_on : (g : _) (c : After-next_stretch-current g)
    → AreStretches (g.C.CostSource.costs c.args.costs.now) (vec_len c.loop-stretches.minima - 1)
    c.next_stretch-current.new.stretches.items
    × HasEnd c.next_stretch-current.new.stretches.items (vec_len c.loop-stretches.minima)
    c.next_stretch-current.result
gone_on g c =
    let (passed, left) = c.next_stretch-current.ensures.left in (
      subst (AreStretches (g.C.CostSource.costs c.args.costs.now)
          (vec_len c.loop-stretches.minima - 1)) (sym left)
          (AreStretches-drop _ _ passed _ c.loop-stretches.invariant.stretches),
      rw c.len-in-loop-stretches.ensures at c.next_stretch-current.ensures.current,
    )

pub least_by_stretch-least-requires-clause-best : goal.least_by_stretch-least-requires-clause-best
least_by_stretch-least-requires-clause-best g c =
    let at = goal.at.least_by_stretch-least-requires-clause-best g c in
    let (are, has) = gone_on g at.After-next_stretch-current in
    let read = stretch_at-read _ _ c.next_stretch-current.result _ c.index.ensures refl
    has.within in
    rw (c.loop-stretches.invariant.same, c.deref-in-loop-stretches.ensures.len, read)
    (are.best (vec_len c.loop-stretches.minima) _ (omega arith) (omega arith) has)

pub least_by_stretch-least-requires-clause-priced
    : goal.least_by_stretch-least-requires-clause-priced
least_by_stretch-least-requires-clause-priced g c =
    let at = goal.at.least_by_stretch-least-requires-clause-priced g c in
    let (are, has) = gone_on g at.After-next_stretch-current in
    let read = stretch_at-read _ _ c.next_stretch-current.result _ c.index.ensures refl
    has.within in
    let priced : IsPriced (g.C.CostSource.costs c.args.costs.now)
    (vec_len c.loop-stretches.minima - 1) c.index.result.now =
    rw read (are.priced _ has.within) in
    λ begins. rw c.loop-stretches.invariant.same (priced.cost (omega arith))

-- the minima with that of the next end
pushed : (g : _) (c : In_ok-push-3 g)
    → AreMinima (g.C.CostSource.costs c.args.costs.now) c.push-in-loop-stretches.new.self.items
pushed g c = search (rules, arith, AreMinima-push)

pub take_in-requires-clause-minima : goal.take_in-requires-clause-minima
take_in-requires-clause-minima g c = rw (
  c.least_by_stretch-least.ensures.same,
  c.loop-stretches.invariant.same,
  c.deref-in-loop-stretches-2.ensures.value,
) (pushed g (goal.at.take_in-requires-clause-minima g c).In_ok-push-3)

pub take_in-requires-clause-stretches : goal.take_in-requires-clause-stretches
take_in-requires-clause-stretches g c =
    let at = goal.at.take_in-requires-clause-stretches g c in
    let len : length c.deref-in-loop-stretches-2.result.now - 2
    ≡ vec_len c.loop-stretches.minima - 1 = omega (arith, c.in_ok-push-3.ensures.len) in
    rw (c.least_by_stretch-least.ensures.same, c.loop-stretches.invariant.same, len)
    (gone_on g at.After-next_stretch-current).0

pub take_in-requires-clause-current : goal.take_in-requires-clause-current
take_in-requires-clause-current g c =
    let at = goal.at.take_in-requires-clause-current g c in
    let len : length c.deref-in-loop-stretches-2.result.now - 1 ≡ vec_len c.loop-stretches.minima =
    omega (arith, c.in_ok-push-3.ensures.len) in search (rules, arith, gone_on)

-- the steps of a turn, also where memory runs out in it
turn : (g : _) (c : After-take_in g)
    → g.C.CostSource.steps c.take_in.new.costs + vec_len c.take_in.new.stretches
    ≤ g.C.CostSource.steps c.loop-stretches.costs + vec_len c.loop-stretches.stretches + 10
    + 2 * binary_digits (c.ends-ends.result - (vec_len c.loop-stretches.minima + 1))
turn g c = search (rules, arith)

pub loop-stretches-preserved : goal.loop-stretches-preserved
loop-stretches-preserved g c =
    let at = goal.at.loop-stretches-preserved g c in
    let i = c.loop-stretches.invariant in
    let took = c.in_ok-take_in.ensures in
    let same = c.least_by_stretch-least.ensures.same ∙ i.same in
    let more = c.in_ok-push-3.ensures.len in
    let len : length c.deref-in-loop-stretches-2.result.now - 1
    ≡ vec_len c.push-in-loop-stretches.new.self - 1 = omega arith in
    record {
      same = took.same ∙ same;
      minima = pushed g at.In_ok-push-3;
      two = omega (arith, more);
      within = omega (arith, more);
      stretches = rw (same, len) at took.stretches;
      current = rw len at took.current;
      steps = steps_more _ _ _ _ _ _ _ (omega arith) i.steps (turn g at.After-take_in) _ more;
      never_less = omega (arith, took.never_less, c.least_by_stretch-least.ensures.never_less);
    }

pub returns-in_err-take_in-clause-steps : goal.returns-in_err-take_in-clause-steps
returns-in_err-take_in-clause-steps g c = rw (← c.ends-ends.ensures)
    (steps_within _ _ _ _ _ _ _ (omega arith) c.loop-stretches.invariant.steps
    (turn g (goal.at.returns-in_err-take_in-clause-steps g c).After-take_in))

pub loop-stretches-init : goal.loop-stretches-init
loop-stretches-init g c = search (rules, arith, AreMinima-push, AreStretches-one)
