use Rattle.textwrap_lines.proofs.printable.last_cut.Goals as goal
use Rattle.textwrap_lines.proofs.Common.{arith, sym, ◌-◌, ◌∙◌}
use Rattle.textwrap_lines.proofs.PrintableTexts.Lines.{none-at, none-then}

pub loop-place-preserved : goal.loop-place-preserved
loop-place-preserved g c = record {
  from = omega (arith, c.loop-place-test.true);
  within = omega (arith, c.loop-place.invariant.within);
  none = none-then _ (c.loop-place.place - 1) c.loop-place.place c.args.end
      (none-at _ c.loop-place.place (sym c.is_cut_at.ensures ∙ c.if-not-is_cut_at.true))
      c.loop-place.invariant.none;
}
