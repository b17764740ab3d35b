use Rattle.textwrap_base.proofs.minima.table.fill_table.Goals as goal
use Rattle.textwrap_text.proofs.Common.{[], ap, arith, refl, rules, Vec, ◌++◌, ◌+◌, ◌∙◌, ◌∷◌, ◌≡◌}
use Rattle.textwrap_base.proofs.{Common.Entry, Cost.Table.table_next, Cost.Table.table_past}
use Rattle.textwrap_base.proofs.Cost.Table.{counted_within, entry-table_longer, overflowed_on}
use Rattle.textwrap_base.proofs.Cost.Table.{counted_next, length-table, number-table, table_fits}
use Rattle.textwrap_base.specs.{declared.errors.WrapError.TheVariants.Memory, Table.table}

pub loop-last-init : goal.loop-last-init
unfolding table
loop-last-init g c = record {
  entries = search rules;
  fits = λ j l. let e : j ≡ 0 = omega arith in rw e (omega arith);
  same = refl;
  steps = omega arith;
}

pub cheapest-requires-clause-len : goal.cheapest-requires-clause-len
cheapest-requires-clause-len g c = rw (c.deref.ensures.value, c.loop-last.invariant.entries)
    (length-table (g.C.CostSource.costs c.args.costs.now).cost c.loop-last.last)

pub cheapest-requires-clause-numbers : goal.cheapest-requires-clause-numbers
cheapest-requires-clause-numbers g c =
    let cost = (g.C.CostSource.costs c.args.costs.now).cost in
    let last = c.loop-last.last in
    rw (c.deref.ensures.value, c.loop-last.invariant.entries)
    (λ k l. number-table cost last k (omega (arith, length-table cost last)))

pub returns-in_default-clause-overflow : goal.returns-in_default-clause-overflow
returns-in_default-clause-overflow g c =
    let cost = (g.C.CostSource.costs c.args.costs.now).cost in
    let n = (g.C.CostSource.costs c.args.costs.now).ends in
    let last = c.loop-last.last in
    let best = rw (c.deref.ensures.value, c.loop-last.invariant.entries, c.loop-last.invariant.same)
    at c.in_default.ensures.best in
    λ _. (
      last + 1,
      record {
        within = omega arith;
        past = table_past cost last n (omega arith) best;
        before = λ k less. rw (entry-table_longer cost n last k (omega (arith, less)) (omega arith))
            (c.loop-last.invariant.fits k (omega (arith, less)));
      },
      counted_next _ _ _ last c.loop-last.invariant.steps c.cheapest.ensures.steps,
    )

pub loop-last-preserved : goal.loop-last-preserved
loop-last-preserved g c =
    let best = rw (c.deref.ensures.value, c.loop-last.invariant.entries, c.loop-last.invariant.same)
    at c.in-Some.ensures.best in
    let more = table_next _ _ _ best.0 in
    record {
      entries = c.in_ok-push-2.ensures.items
          ∙ ap (λ entries. entries ++ c.in-Some.entry ∷ []) c.loop-last.invariant.entries ∙ more;
      fits = table_fits _ _ _ more best.1 c.loop-last.invariant.fits;
      same = c.cheapest.ensures.same ∙ c.loop-last.invariant.same;
      steps = counted_next _ _ _ c.loop-last.last c.loop-last.invariant.steps
          c.cheapest.ensures.steps;
    }

pub cheapest-requires-clause-within : goal.cheapest-requires-clause-within
cheapest-requires-clause-within g c = rw c.loop-last.invariant.same (omega arith)

pub returns-in_default-clause-steps_most : goal.returns-in_default-clause-steps_most
returns-in_default-clause-steps_most g c = counted_within _ _ _ c.loop-last.last _
    c.loop-last.invariant.steps c.cheapest.ensures.steps (omega arith)

pub returns-in_err-push-2-clause-steps_most : goal.returns-in_err-push-2-clause-steps_most
returns-in_err-push-2-clause-steps_most g c = counted_within _ _ _ c.loop-last.last _
    c.loop-last.invariant.steps c.cheapest.ensures.steps (omega arith)

pub returns-in_err-push-clause-overflow : goal.returns-in_err-push-clause-overflow
returns-in_err-push-clause-overflow g c = λ over. absurd (overflowed_on (Vec Entry g.row.A.Denot)
    c.from_residual.result (Memory _) c.from_residual.ensures.1 over)

pub returns-in_err-push-2-clause-overflow : goal.returns-in_err-push-2-clause-overflow
returns-in_err-push-2-clause-overflow g c = λ over. absurd (overflowed_on (Vec Entry g.row.A.Denot)
    c.from_residual-in_err-push-2.result (Memory _) c.from_residual-in_err-push-2.ensures.1 over)

pub returns-clause-entries : goal.returns-clause-entries
returns-clause-entries g c =
    let all : c.loop-last.last ≡ (g.C.CostSource.costs c.args.costs.now).ends = omega arith in
    rw all at c.loop-last.invariant.entries

pub returns-clause-ok_only : goal.returns-clause-ok_only
returns-clause-ok_only g c =
    let all : c.loop-last.last ≡ (g.C.CostSource.costs c.args.costs.now).ends = omega arith in
    rw all at c.loop-last.invariant.fits

pub returns-clause-steps_ok : goal.returns-clause-steps_ok
returns-clause-steps_ok g c =
    let all : c.loop-last.last ≡ (g.C.CostSource.costs c.args.costs.now).ends = omega arith in
    rw all at c.loop-last.invariant.steps

pub returns-clause-steps_most : goal.returns-clause-steps_most
returns-clause-steps_most g c = omega (arith, returns-clause-steps_ok g c)
