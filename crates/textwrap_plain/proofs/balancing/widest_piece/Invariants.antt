use Rattle.textwrap.proofs.Common.{layout_view, flat_map, max, ◌≡◌}
use Rattle.textwrap_display.proofs.Common.{bytes_left, paragraphs_left}
use Rattle.textwrap_plain.specs.{Balance.whole_pieces, Options.points_by, Options.split_by_points}
use Rattle.textwrap_plain.specs.Widest.{widest_of_words}
use Rattle.textwrap_plain.proofs.balancing.widest_piece.Given as goal

-- the widest so far, and that of the pieces of the paragraphs that are left, are the widest of all
abbrev pub invariant-loop-rest : goal.invariant-loop-rest
invariant-loop-rest g l =
    max l.widest (widest_of_words (flat_map (λ paragraph. split_by_points (points_by l.parts.splitter)
    (g.W.PrintableCuts.words l.parts.words paragraph)) (paragraphs_left l.line_ending l.rest)))
    ≡ widest_of_words (whole_pieces (layout_view l.layout) (g.W.PrintableCuts.words l.parts.words)
    (points_by l.parts.splitter) l.text)

abbrev pub decreases-loop-rest : goal.decreases-loop-rest
decreases-loop-rest g l = bytes_left l.rest
