use Rattle.textwrap_base.proofs.minima.stretches.drop_beaten.Goals as goal
use Rattle.textwrap_text.proofs.Common.{length-take, take-take, take_all, vec_len, length, arith}
use Rattle.textwrap_text.proofs.Common.{rules, take, sym, ◌+◌, ◌-◌, ◌<◌, ◌∙◌, ◌≡◌, ◌≤◌, ap}
use Rattle.textwrap_base.proofs.Common.{stretch_at, cost_from, IsPriced, Stretch}
use Rattle.textwrap_base.proofs.Search.{IsBestFrom-beaten, stretch_at-left, stretch_at-read}
use Rattle.textwrap_base.proofs.Search.{HaveBest-take, begins_after}

pub loop-stretches-init : goal.loop-stretches-init
loop-stretches-init g c =
    let n = vec_len c.args.stretches.now in
    let held = c.requires.current.within in
    record {
      same = search rules;
      left = sym (take_all n c.args.stretches.now.items (omega arith));
      current = omega arith;
      fewer = omega arith;
      start = search rules;
      after = omega arith;
      later = omega (arith, (c.requires.stretches.priced (n - 1) (omega arith)).before_last);
      before = omega arith;
      priced = λ l. absurd (omega arith);
      best = rw c.ends.ensures c.requires.stretches.best;
      wins = λ end l m. absurd (omega arith);
      steps = omega arith;
      never_less = omega arith;
    }

pub price-cost-requires-clause-ordered : goal.price-cost-requires-clause-ordered
price-cost-requires-clause-ordered g c =
    let n = vec_len c.loop-stretches.stretches in
    let old = c.args.stretches.now.items in
    let i = c.loop-stretches.invariant in
    let last = stretch_at-read c.loop-stretches.stretches.items
    (c.len-in-loop-stretches.result - 1) (n - 1) c.index-last.result.now c.index-last.ensures
    (omega arith) (omega arith)
    ∙ stretch_at-left c.loop-stretches.stretches.items old n (n - 1) i.left (omega arith) in
    rw last (begins_after old (length c.args.minima.now - 1) c.args.current (n - 1)
    c.requires.stretches.rising c.requires.current (omega arith) (omega arith))

pub returns-then-cost-last-clause-unbeaten : goal.returns-then-cost-last-clause-unbeaten
returns-then-cost-last-clause-unbeaten g c = λ after.
    let costs = g.C.CostSource.costs c.args.costs.now in
    let n = vec_len c.loop-stretches.stretches in
    let old = c.args.stretches.now.items in
    let start = length c.args.minima.now - 1 in
    let i = c.loop-stretches.invariant in
    let last = stretch_at-read c.loop-stretches.stretches.items
    (c.len-in-loop-stretches.result - 1) (n - 1) c.index-last.result.now c.index-last.ensures
    (omega arith) (omega arith) in
    let left = stretch_at-left c.loop-stretches.stretches.items old n (n - 1) i.left (omega arith) in
    let priced : IsPriced costs (length c.args.minima.now - 2) c.index-last.result.now =
    rw (last, left) (c.requires.stretches.priced (n - 1) (omega arith)) in
    let asked : c.price-cost.result ≡ cost_from costs start c.index-last.result.now.from =
    rw i.same at c.price-cost.ensures.price in
    let begins : length c.args.minima.now ≤ c.index-last.result.now.from = rw last after in
    rw (← last) (omega (arith, priced.cost (omega (arith, priced.within)), asked))

pub loop-stretches-preserved : goal.loop-stretches-preserved
loop-stretches-preserved g c =
    let costs = g.C.CostSource.costs c.args.costs.now in
    let q = c.loop-stretches.stretches.items in
    let n = vec_len c.loop-stretches.stretches in
    let old = c.args.stretches.now.items in
    let m = length c.args.minima.now - 2 in
    let start = length c.args.minima.now - 1 in
    let i = c.loop-stretches.invariant in
    let less = c.pop.new.self.items in
    let left : less ≡ take (n - 1) q = c.pop.ensures.rest in
    let fewer : vec_len c.pop.new.self + 1 ≡ n =
    omega (arith, ap length left, length-take (n - 1) q) in
    let read = stretch_at-read c.loop-stretches.stretches.items
    (c.len-in-loop-stretches.result - 1) (n - 1) c.index-last.result.now c.index-last.ensures
    (omega arith) (omega arith) in
    let from = ap (λ (s : Stretch). s.from) read in
    let last = stretch_at-left q old n (n - 1) i.left (omega arith) in
    let priced : IsPriced costs m c.index-last.result.now =
    rw (read, last) (c.requires.stretches.priced (n - 1) (omega arith)) in
    let asked : c.price-cost.result ≡ cost_from costs start c.index-last.result.now.from =
    rw i.same at c.price-cost.ensures.price in
    let is_left : less ≡ take (vec_len c.pop.new.self) old =
    let same : n - 1 ≡ vec_len c.pop.new.self = omega arith in
    left ∙ ap (take (n - 1)) i.left ∙ take-take (n - 1) n old (omega arith)
    ∙ ap (λ k. take k old) same in
    let begins : start < c.index-last.result.now.from =
    rw (read, last) (begins_after old start c.args.current (n - 1) c.requires.stretches.rising
    c.requires.current (omega arith) (omega arith)) in
    let cheaper : cost_from costs start c.index-last.result.now.from
    < cost_from costs (stretch_at q (n - 1)).start c.index-last.result.now.from =
    rw (← read) (omega (arith, priced.cost (omega (arith, priced.within)), asked)) in
    record {
      same = c.price-cost.ensures.same ∙ i.same;
      left = is_left;
      current = omega arith;
      fewer = omega arith;
      start = search rules;
      after = begins;
      later = rw (
        stretch_at-left less old (vec_len c.pop.new.self) (vec_len c.pop.new.self - 1) is_left
            (omega arith),
        read,
        last,
      ) (c.requires.stretches.rising (vec_len c.pop.new.self - 1) (n - 1) (omega arith)
          (omega arith));
      before = omega (arith, priced.before_last);
      priced = λ l. asked;
      best = HaveBest-take _ _ _ _ _ _ _ i.best (omega arith) left from (omega arith);
      wins = IsBestFrom-beaten _ c.requires.suits _ _ (omega arith) _ (n - 1) _ (omega arith)
          i.best _ i.wins begins (omega arith) (λ _. cheaper);
      steps = omega (arith, c.price-cost.ensures.step, i.steps);
      never_less = omega arith;
    }
