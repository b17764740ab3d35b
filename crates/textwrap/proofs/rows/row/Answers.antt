use Rattle.textwrap.proofs.rows.row.Goals as goal
use Rattle.textwrap.proofs.Common.{append_assoc, take_all, arith, sym, ◌∙◌}
use Rattle.textwrap.proofs.Text.Rows.{join-more}

pub loop-at-preserved : goal.loop-at-preserved
loop-at-preserved g c =
    rw (
      c.in_ok-push_cell.ensures,
      c.cell-cell.ensures ∙ sym (c.alike-alike.ensures.same c.loop-at.at (omega arith) (omega arith)),
      c.in_ok-push_str-2.ensures.bytes,
      c.gap_before.ensures,
      c.loop-at.invariant,
      join-more c.args.frame.now.middle.now (g.C.RowCells.texts c.args.cells.now c.args.r) c.loop-at.at
          (omega (arith, c.alike-alike.ensures.within, c.columns-columns.ensures.all c.args.r)),
    )
    (simp append_assoc)

pub returns : goal.returns
returns g c =
    let all = take_all c.loop-c.c (g.C.RowCells.texts c.args.cells.now c.args.r)
    (omega (arith, c.columns-columns.ensures.all c.args.r)) in
    rw (c.in_ok-push_str-3.ensures.bytes, c.in_ok-push_blanks.ensures, c.loop-c.invariant.0, all)
    (simp append_assoc)
