use Rattle.textwrap_plain.proofs.balancing.search.Goals as goal
use Rattle.textwrap_layout.proofs.Common.{layout_view}
use Rattle.textwrap_plain.proofs.Balance.Search.{between-end, between-narrower, between-start}
use Rattle.textwrap_plain.proofs.Balance.Search.{between-wider, halved}
use Rattle.textwrap_plain.proofs.balancing.search.Goals.{else-count-most, then-count-most}
use Rattle.textwrap_plain.specs.Options.{points_by}
use Rattle.textwrap_text.proofs.Common.{arith, ◌+◌, ◌-◌, ◌/◌, ◌≤◌}

pub loop-low-init : goal.loop-low-init
loop-low-init g c =
    record {
      between = between-start (layout_view c.args.layout)
          (g.W.PrintableCuts.words c.args.parts.now.words)
          (points_by c.args.parts.now.splitter) c.args.text.now _
          c.in_ok-most.ensures.counted c.args.least c.requires.within c.requires.room
          c.requires.least;
      within = omega arith;
      left = omega arith;
    }

pub loop-low-preserved : goal.loop-low-preserved
loop-low-preserved g c =
    let settings = layout_view c.args.layout in
    let words = g.W.PrintableCuts.words c.args.parts.now.words in
    let splitter = points_by c.args.parts.now.splitter in
    let text = c.args.text.now in
    let taken = c.in_ok-most.ensures.counted in
    let low = c.loop-low.low in
    let high = c.loop-low.high in
    let middle = low + (high - low) / 2 in
    let between = c.loop-low.invariant.between in
    let half = elim c.if-count-most.branch as (λ b. c.if-count-most.high - c.if-count-most.low
    ≤ (high - low) / 2) [
      | then-count-most w ↦ omega (arith, w.low-is, w.high-is)
      | else-count-most w ↦ omega (arith, w.low-is, w.high-is)
    ] in
    let next = halved (high - low) (c.if-count-most.high - c.if-count-most.low) c.loop-low.fillings
    (omega (arith, c.loop-low-test.true)) half c.loop-low.invariant.within
    c.loop-low.invariant.left in
    record {
      between = elim c.if-count-most.branch [
        | then-count-most w ↦
            rw (w.low-is, w.high-is) (between-narrower settings words splitter text _ taken low high
            middle c.in_ok-count.count between (omega arith)
            (omega (arith, c.loop-low-test.true)) c.in_ok-count.ensures.counted w.if-count-most.true)
        | else-count-most w ↦
            rw (w.low-is, w.high-is) (between-wider settings words splitter text _ taken low high
            middle c.in_ok-count.count between (omega arith)
            (omega (arith, c.loop-low-test.true)) c.in_ok-count.ensures.counted w.if-count-most.false)
      ];
      within = next.0;
      left = next.1;
    }

pub returns-clause-balanced : goal.returns-clause-balanced
returns-clause-balanced g c =
    between-end (layout_view c.args.layout) (g.W.PrintableCuts.words c.args.parts.now.words)
    (points_by c.args.parts.now.splitter) c.args.text.now c.loop-low.low c.loop-low.high
    c.loop-low.invariant.between (omega arith)
