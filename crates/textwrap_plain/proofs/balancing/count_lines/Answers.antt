use Rattle.textwrap_lines.proofs.Common.{layout_view, lines_of, places_of, ap, arith, rules, ◌∙◌}
use Rattle.textwrap_plain.proofs.Balance.{Counted.counted, Counts.points_by-inside}
use Rattle.textwrap_plain.specs.{CutSides.points_by-cuts, Options.points_by}
use Rattle.textwrap_plain.proofs.balancing.count_lines.Goals as goal

pub returns-clause-counted : goal.returns-clause-counted
returns-clause-counted g c =
    let parts = c.args.parts.now in
    let (taken, are, end, holds) = c.in_ok-fill_to.ensures.lines in
    counted (g.W.PrintableCuts.words parts.words) (g.met.W.PrintableCuts.are_cut parts.words)
    (points_by parts.splitter) (points_by-cuts parts.splitter) (points_by-inside parts.splitter)
    (layout_view c.args.layout) c.args.text.now c.args.width _ (lines_of taken) (places_of 0 taken)
    c.utf8.text (omega arith)
    (record { are = are.are; places_are = ap (places_of 0) are.cuts_are })
    (c.counts.ensures.lines ∙ (search rules ∙ holds.placed.lines.len_is))
