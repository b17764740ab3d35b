use Rattle.textwrap_lines.proofs.printable.next_cut.Goals as goal
use Rattle.textwrap_lines.proofs.Common.{arith, sym, ◌+◌, ◌-◌, ◌∙◌, ◌≡◌}
use Rattle.textwrap_lines.proofs.PrintableTexts.Lines.{none-at, none-then}

pub loop-place-preserved : goal.loop-place-preserved
loop-place-preserved g c =
    let same : c.loop-place.place + 1 - 1 ≡ c.loop-place.place = omega arith in record {
      from = omega (arith, c.loop-place.invariant.from);
      within = omega (arith, c.loop-place-test.true);
      none = rw same (none-then _ (c.args.start - 1) (c.loop-place.place - 1) c.loop-place.place
          c.loop-place.invariant.none
          (none-at _ c.loop-place.place (sym c.is_cut_at.ensures ∙ c.if-not-is_cut_at.true)));
    }
