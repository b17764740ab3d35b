use Rattle.textwrap_more_calls.proofs.paragraphs.place_paragraphs.Given as goal
use Rattle.textwrap_calls.proofs.Common.{bytes_left, paragraphs_left}
use Rattle.textwrap_more_calls.proofs.PieceLemmas.{HasPlaced}

abbrev pub invariant-loop-rest : goal.invariant-loop-rest
invariant-loop-rest l = HasPlaced l.line_ending l.text l.places.items l.offset
    (paragraphs_left l.line_ending l.rest)

abbrev pub decreases-loop-rest : goal.decreases-loop-rest
decreases-loop-rest l = bytes_left l.rest
