use Rattle.textwrap_base.proofs.minima.stretches.take_in.Goals as goal
use Rattle.textwrap_text.proofs.Common.{arith, length, max, vec_len, ◌*◌, ◌+◌, ◌-◌, ◌<◌, ◌∙◌, ◌≡◌}
use Rattle.textwrap_text.proofs.Common.{ap, ◌≤◌}
use Rattle.textwrap_base.proofs.{Common.Costs, Common.IsPriced, Common.Stretch, Search.taken_over}
use Rattle.textwrap_base.proofs.Common.{binary_digits, cost_from, HaveBest, IsBestFrom, stretch_at}
use Rattle.textwrap_base.proofs.Search.{AreStretches-left, AreStretches-push, stretch_at-left}
use Rattle.textwrap_base.proofs.Search.{digits_mono, HasEnd-left, HasEnd-push, stretch_at-read}
use Rattle.textwrap_base.proofs.minima.stretches.take_in.Goals.{After-take_over-stretch}

-- the stretch has the best start for its ends, and those before it for theirs
taken : (g : _) (c : After-take_over-stretch g)
    → HaveBest (g.C.CostSource.costs c.args.costs.now) (length c.args.minima.now - 1)
    c.take_over-stretch.result.from c.drop_beaten-won.new.stretches.items
    × IsBestFrom (g.C.CostSource.costs c.args.costs.now) (length c.args.minima.now - 1)
    c.take_over-stretch.result.from
taken g c =
    let costs = g.C.CostSource.costs c.args.costs.now in
    let q = c.drop_beaten-won.new.stretches.items in
    let n = vec_len c.drop_beaten-won.new.stretches in
    let start = length c.args.minima.now - 1 in
    let from = c.take_over-stretch.result.from in
    let d = c.drop_beaten-won.ensures in
    let read = stretch_at-read q (c.len.result - 1) (n - 1) c.index-rival.result.now
    c.index-rival.ensures (omega arith) (omega arith) in
    let low : c.max-low.result ≡ max (start + 1) ((stretch_at q (n - 1)).from + 1) =
    rw (← read) (omega arith) in
    let between : c.max-low.result < from
    → cost_from costs (stretch_at q (n - 1)).start (from - 1) ≤ cost_from costs start (from - 1) =
    rw (← read) (rw d.same at c.take_over-stretch.ensures.unbeaten) in
    let cheaper : from < c.drop_beaten-won.result.from
    → cost_from costs start from < cost_from costs (stretch_at q (n - 1)).start from =
    rw (← read) (rw d.same at c.take_over-stretch.ensures.beaten) in
    taken_over costs c.requires.suits (length c.args.minima.now - 2) start (omega arith) q (n - 1)
    c.drop_beaten-won.result.from (omega arith) d.best c.max-low.result from low
    (omega arith) (omega arith) (omega arith) d.wins (λ l. d.unbeaten (omega arith)) between cheaper

-- the steps of finding it
counted : (g : _) (c : After-take_over-stretch g)
    → g.C.CostSource.steps c.take_over-stretch.new.costs
    + vec_len c.drop_beaten-won.new.stretches ≤ g.C.CostSource.steps c.args.costs.now
    + vec_len c.args.stretches.now + 7
    + 2 * binary_digits ((g.C.CostSource.costs c.args.costs.now).ends - length c.args.minima.now)
counted g c = omega (
  arith,
  c.drop_beaten-won.ensures.steps,
  c.take_over-stretch.ensures.steps,
  digits_mono (c.drop_beaten-won.result.from - c.max-low.result)
      ((g.C.CostSource.costs c.args.costs.now).ends - length c.args.minima.now) (omega arith),
)

pub overflow_add-rival : goal.overflow_add-rival
overflow_add-rival g c =
    let n = vec_len c.drop_beaten-won.new.stretches in
    let read = stretch_at-read c.drop_beaten-won.new.stretches.items _ (n - 1)
    c.index-rival.result.now c.index-rival.ensures (omega arith) (omega arith) in
    omega (arith, ap (λ (s : Stretch). s.from) read)

pub take_over-stretch-requires-clause-rival : goal.take_over-stretch-requires-clause-rival
take_over-stretch-requires-clause-rival g c =
    let n = vec_len c.drop_beaten-won.new.stretches in
    let read = stretch_at-read c.drop_beaten-won.new.stretches.items _ (n - 1)
    c.index-rival.result.now c.index-rival.ensures (omega arith) (omega arith) in
    let left = stretch_at-left _ _ _ (n - 1) c.drop_beaten-won.ensures.left (omega arith) in
    rw (read, left) (omega (arith, (c.requires.stretches.priced (n - 1) (omega arith)).within))

pub take_over-stretch-requires-clause-ordered : goal.take_over-stretch-requires-clause-ordered
take_over-stretch-requires-clause-ordered g c =
    let n = vec_len c.drop_beaten-won.new.stretches in
    let read = stretch_at-read c.drop_beaten-won.new.stretches.items _ (n - 1)
    c.index-rival.result.now c.index-rival.ensures (omega arith) (omega arith) in
    omega (arith, ap (λ (s : Stretch). s.from) read)

pub take_over-stretch-requires-clause-priced : goal.take_over-stretch-requires-clause-priced
take_over-stretch-requires-clause-priced g c =
    rw c.drop_beaten-won.ensures.same c.drop_beaten-won.ensures.priced

pub returns-in_ok-push-clause-stretches : goal.returns-in_ok-push-clause-stretches
returns-in_ok-push-clause-stretches g c =
    let costs = g.C.CostSource.costs c.args.costs.now in
    let s = c.take_over-stretch.result in
    let won = c.drop_beaten-won.ensures in
    let is = c.take_over-stretch.ensures in
    let q = c.drop_beaten-won.new.stretches.items in
    let read = stretch_at-read q _ (length q - 1) c.index-rival.result.now c.index-rival.ensures
    (omega arith) (omega arith) in
    let at = goal.at.returns-in_ok-push-clause-stretches g c in
    let (best, wins) = taken g at.After-take_over-stretch in
    let before_last : s.from < costs.ends =
    omega (arith, ap (λ (l : Costs). l.ends) (is.same ∙ won.same)) in
    let priced : IsPriced costs (length c.args.minima.now - 1) s = record {
      within = omega arith;
      before_last = before_last;
      cost = λ _. (rw won.same at is.priced) before_last;
    } in
    AreStretches-push _ _ s c.in_ok-push.ensures.items _ _ _ _ _ (omega arith) c.requires.stretches
    won.left (omega arith) priced is.start (omega (arith, ap (λ (t : Stretch). t.from) read)) best
    wins

pub returns-else-stretch-ends-clause-stretches : goal.returns-else-stretch-ends-clause-stretches
returns-else-stretch-ends-clause-stretches g c =
    let same = c.take_over-stretch.ensures.same ∙ c.drop_beaten-won.ensures.same in
    AreStretches-left _ _ _ _ _ _ _ (omega arith) c.requires.stretches
    c.drop_beaten-won.ensures.left
    (taken g (goal.at.returns-else-stretch-ends-clause-stretches g c).After-take_over-stretch).0
    (omega (arith, ap (λ (l : Costs). l.ends) same))

pub returns-in_ok-push-clause-current : goal.returns-in_ok-push-clause-current
returns-in_ok-push-clause-current g c = HasEnd-push _ _ _ c.in_ok-push.ensures.items _ _
    (HasEnd-left _ _ _ _ _ c.drop_beaten-won.ensures.left c.requires.current (omega arith))
    (omega arith)

pub returns-else-stretch-ends-clause-current : goal.returns-else-stretch-ends-clause-current
returns-else-stretch-ends-clause-current g c =
    HasEnd-left _ _ _ _ _ c.drop_beaten-won.ensures.left c.requires.current (omega arith)

pub returns-in_ok-push-clause-steps : goal.returns-in_ok-push-clause-steps
returns-in_ok-push-clause-steps g c =
    let at = goal.at.returns-in_ok-push-clause-steps g c in
    omega (arith, counted g at.After-take_over-stretch, c.in_ok-push.ensures.len)

pub returns-in_err-push-clause-steps : goal.returns-in_err-push-clause-steps
returns-in_err-push-clause-steps g c = omega
    (arith, counted g (goal.at.returns-in_err-push-clause-steps g c).After-take_over-stretch)

pub returns-else-stretch-ends-clause-steps : goal.returns-else-stretch-ends-clause-steps
returns-else-stretch-ends-clause-steps g c = omega
    (arith, counted g (goal.at.returns-else-stretch-ends-clause-steps g c).After-take_over-stretch)
