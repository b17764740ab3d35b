use Rattle.textwrap_plain.proofs.balancing.widest_piece.Goals as goal
use Rattle.textwrap_layout.proofs.Text.Lines.{paragraphs_left, paragraphs_left-split}
use Rattle.textwrap_plain.proofs.Balance.Room.{widest-more}
use Rattle.textwrap_plain.specs.{Options.points_by, Options.split_by_points, Widest.widest_of_words}
use Rattle.textwrap_text.proofs.Common.{ap, arith, flat_map, max, ◌∙◌}

pub loop-rest-init : goal.loop-rest-init
loop-rest-init g c = omega arith

pub loop-rest-preserved : goal.loop-rest-preserved
loop-rest-preserved g c =
    let ending = c.args.layout.line_ending in
    let paragraph = c.split_paragraph.result.0.now in
    let after = c.split_paragraph.result.1 in
    let split = split_by_points (points_by c.args.parts.now.splitter) (g.W.PrintableCuts.words c.args.parts.now.words paragraph)
    in
    let others = flat_map (λ paragraph. split_by_points (points_by c.args.parts.now.splitter)
    (g.W.PrintableCuts.words c.args.parts.now.words paragraph)) (paragraphs_left ending after) in
    ap (λ n. max n (widest_of_words others)) (c.wider-widest.ensures
    ∙ ap (max c.loop-rest.widest) c.in_ok-widest_in.ensures.widest)
    ∙ widest-more c.loop-rest.widest split others
    ∙ (rw (
      c.in-Some.is,
      paragraphs_left-split ending c.in-Some.text.now after paragraph
          c.split_paragraph.ensures.paragraphs,
    ) at c.loop-rest.invariant)

pub returns-clause-widest : goal.returns-clause-widest
returns-clause-widest g c = omega (arith, rw c.in_default.is at c.loop-rest.invariant)
