use Rattle.textwrap.proofs.rows.row_len.Goals as goal
use Rattle.textwrap.proofs.Common.{SomeIff-ok, take_all, framed, length, sum_by, arith, min, sym}
use Rattle.textwrap.proofs.Common.{◌*◌, ◌-◌, ◌<◌, ◌^◌, ◌∙◌, ◌≡◌, ap}
use Rattle.textwrap.proofs.Text.Rows.{length-alike, length-row}

pub loop-c-preserved : goal.loop-c-preserved
loop-c-preserved g c = (
  omega (
    arith,
    c.loop-c.invariant,
    ap (λ n. c.alike-alike.result * n) (c.cell_len-cell_len.ensures ∙ ap length c.cell.ensures),
    c.saturating_mul.ensures,
    c.saturating_add-len.ensures,
    length-alike (g.C.RowCells.texts c.args.cells.now c.args.r) c.loop-c.c c.alike-alike.result
        (omega (arith, c.columns-columns.ensures.all c.args.r)) c.alike-alike.ensures.same,
  ),
  omega arith,
)

pub returns : goal.returns
returns g c =
    let cells = g.C.RowCells.texts c.args.cells.now c.args.r in
    let frame = c.args.frame.now in
    let len = length (framed frame cells) in
    let all = take_all c.loop-c.c cells (omega (arith, c.columns-columns.ensures.all c.args.r)) in
    let gaps = c.saturating_sub-gaps.ensures
    ∙ ap (λ n. n - 1) (sym (c.columns-columns.ensures.all c.args.r)) in
    let counted : c.saturating_add-len-2.result ≡ min len (2 ^ 128 - 1) = omega (
      arith,
      c.loop-c.invariant,
      ap (sum_by length) all,
      ap (λ n. n * length frame.middle.now) gaps,
      length-row frame.left.now frame.middle.now frame.right.now frame.spare cells,
      c.saturating_mul-gaps_len.ensures,
      c.saturating_add.ensures,
      c.saturating_add-len-2.ensures,
    ) in
    rw c.ok.ensures.value
    (SomeIff-ok c.try_from.result (c.saturating_add-len-2.result < 2 ^ 64) (len < 2 ^ 64)
    c.saturating_add-len-2.result len c.try_from.ensures
    (λ fits. (omega (arith, fits, counted), omega (arith, fits, counted)))
    (λ fits. omega (arith, fits, counted)))
