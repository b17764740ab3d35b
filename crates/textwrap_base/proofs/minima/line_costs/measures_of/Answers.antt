use Rattle.textwrap_base.proofs.minima.line_costs.measures_of.Goals as goal
use Rattle.textwrap_text.proofs.Common.{arith, refl, ◌∙◌, ap, map, take_all}
use Rattle.textwrap_base.proofs.Cost.Measures.{sizes-same, open_width-same}
use Rattle.textwrap_base.proofs.Cost.Measures.{total_width-same, open_width-total}

pub overflow_add-before-in-loop-fragment : goal.overflow_add-before-in-loop-fragment
overflow_add-before-in-loop-fragment g c =
    let same = open_width-same _ _ _ _ (sizes-same _ _ _ _ c.loop-fragment.invariant.priced) in
    let all = rw (← c.fragment-item.is) at (open_width-total g.T.Fragment.sizes c.args.fragments.now
    c.loop-fragment.fragment-index c.fragment-item.result (omega arith)) in
    omega (arith, same, all, c.requires)

pub returns-clause-measured : goal.returns-clause-measured
returns-clause-measured g c =
    let all = take_all c.loop-fragment.fragment-index c.args.fragments.now (omega arith) in
    let sizes = sizes-same _ _ _ _ c.loop-fragment.invariant.priced in
    let same = total_width-same _ _ _ c.args.fragments.now (sizes ∙ ap (map g.T.Fragment.sizes) all) in
    record {
      opens_after = c.loop-fragment.invariant.all;
      closes_after = λ i d l. refl;
      total = omega (arith, same, c.requires);
    }
