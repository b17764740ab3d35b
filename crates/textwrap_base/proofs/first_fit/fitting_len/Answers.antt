use Rattle.textwrap_text.proofs.Common.{ap, arith, rules, take, ◌+◌, ◌<◌, ◌≡◌, ◌≤◌}
use Rattle.textwrap_base.proofs.Common.{closed_width, open_width}
use Rattle.textwrap_base.proofs.Division.Greedy.{closed_width-take, Fits-take, open_width-take}
use Rattle.textwrap_base.proofs.first_fit.fitting_len.Goals as goal

pub returns-then-closed-line_width-clause-full : goal.returns-then-closed-line_width-clause-full
returns-then-closed-line_width-clause-full g c = search (rules, arith, closed_width-take)

pub loop-i-preserved : goal.loop-i-preserved
loop-i-preserved g c =
    let opened = open_width-take g.T.Fragment.sizes c.args.fragments.now c.loop-i.i
    c.index-fragments-i.result c.loop-i-test.true c.index-fragments-i.is in
    let closed = closed_width-take g.T.Fragment.sizes c.args.fragments.now c.loop-i.i
    c.index-fragments-i.result c.loop-i-test.true c.index-fragments-i.is in
    let bound : 0 < c.loop-i.i
    → closed_width g.T.Fragment.sizes (take (c.loop-i.i + 1) c.args.fragments.now) ≤
    c.args.line_width = elim c.else-i-gt0.branch [
      | goal.else-i-gt0-via-then-i-gt0+else-closed-line_width w ↦ λ _. omega arith
      | goal.else-i-gt0-via-else-i-gt0 w ↦ λ some. absurd (omega arith)
    ] in (
      omega arith,
      elim c.else-i-gt0.branch [
        | goal.else-i-gt0-via-then-i-gt0+else-closed-line_width w ↦ omega arith
        | goal.else-i-gt0-via-else-i-gt0 w ↦
            let first : c.loop-i.i ≡ 0 = omega arith in
            let none = ap (λ n. open_width g.T.Fragment.sizes (take n c.args.fragments.now)) first
            in
            omega arith
      ],
      Fits-take _ _ _ _ _ c.loop-i-test.true c.index-fragments-i.is c.loop-i.invariant.2 bound,
    )
