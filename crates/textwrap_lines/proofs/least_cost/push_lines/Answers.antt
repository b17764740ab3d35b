use Rattle.textwrap_lines.proofs.least_cost.push_lines.Goals as goal
use Rattle.textwrap_lines.proofs.Common.{drop_more, HasTaken-end, HasTaken-next, HasTaken-start}
use Rattle.textwrap_lines.proofs.Common.{arith, drop_all, refl, ◌∙◌}

pub loop-line-init : goal.loop-line-init
loop-line-init g c =
    record { taken = HasTaken-start _ c.args.lines.now; texts = c.requires; name = refl }

pub loop-line-preserved : goal.loop-line-preserved
loop-line-preserved g c =
    let more = drop_more c.args.division.now c.loop-line.line-index _ c.loop-line-test.true in
    record {
      taken = HasTaken-next _ c.args.lines.now c.loop-line.lines c.push_between.new.lines _ _
          (rw more at c.loop-line.invariant.taken)
          (rw c.next_indent-indent.ensures at c.in_ok-push_between.ensures.pushed);
      texts = (rw more at c.loop-line.invariant.texts).2;
      name = c.push_between.ensures.name ∙ c.loop-line.invariant.name;
    }

pub returns-clause-pushed : goal.returns-clause-pushed
returns-clause-pushed g c = HasTaken-end _ c.args.lines.now c.loop-line.lines
    (rw (drop_all c.loop-line.line-index c.args.division.now (omega arith))
    at c.loop-line.invariant.taken)
