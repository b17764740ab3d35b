use Rattle.std.proofs.Common.{arith, ◌∙◌}
use Rattle.textwrap_patterns.proofs.LevelsRaised.{child-inner, child-leaf, level-last}
use Rattle.textwrap_patterns.proofs.lookup.raise_along.Goals as goal

pub returns-then-not-raise_to-clause-levels : goal.returns-then-not-raise_to-clause-levels
returns-then-not-raise_to-clause-levels c k within =
    let none = child-leaf c.args.slots.now c.loop-i.node c.index-text-i.result c.raise_to.result
    c.raise_to.ensures.inner c.if-not-raise_to.true in
    let last = level-last c.args.text.now c.args.slots.now c.args.lists.now c.loop-i.node k c.loop-i.i
    c.index-text-i.result c.loop-i-test.true c.index-text-i.is none in
    omega (
      arith,
      last,
      c.raise_to.ensures.levels k (omega (arith, within, c.loop-i.auto.levels)),
      c.loop-i.invariant k within,
    )

pub returns-in-None-clause-levels : goal.returns-in-None-clause-levels
returns-in-None-clause-levels c k within =
    let none = child-inner c.args.slots.now c.loop-i.node c.index-text-i.result c.raise_to.result
    c.raise_to.ensures.inner c.if-not-raise_to.false
    ∙ c.in-None.ensures in
    let last = level-last c.args.text.now c.args.slots.now c.args.lists.now c.loop-i.node k c.loop-i.i
    c.index-text-i.result c.loop-i-test.true c.index-text-i.is none in
    omega (
      arith,
      last,
      c.raise_to.ensures.levels k (omega (arith, within, c.loop-i.auto.levels)),
      c.loop-i.invariant k within,
    )
