use Rattle.textwrap_more_calls.proofs.pieces.placed_pieces.Goals as goal
use Rattle.textwrap_calls.proofs.Common.{ap, as_splitter, settings_view, standing_left, ◌∙◌}
use Rattle.textwrap_layout.proofs.{Common.pieces_of, Paragraph.Pieces.pieces_of-no_penalty}
use Rattle.textwrap_more_calls.proofs.PieceLemmas.{HasNext, Left-end, Left-next, Left-start}
use Rattle.textwrap_more_calls.proofs.pieces.placed_pieces.Goals.{In-Some}

pub loop-piece-init : goal.loop-piece-init
loop-piece-init g c =
    rw c.new-pieces.ensures.items (Left-start
    (pieces_of-no_penalty (settings_view c.args.options.now) (as_splitter c.args.splitter)
    c.args.paragraph.now c.utf8.paragraph)
    (ap standing_left c.into_iter-piece-iterator.ensures.into_iter_gives
    ∙ c.paragraph_pieces-piece-items.ensures))

-- the piece that the iterator gives, and those after it
turn : (g : _) (c : In-Some g)
    → HasNext (pieces_of (settings_view c.args.options.now) (as_splitter c.args.splitter)
    c.args.paragraph.now) c.loop-piece.pieces.items c.loop-piece.offset c.in-Some.piece
    (standing_left c.next.new.self)
turn g c = Left-next (rw c.in-Some.ensures.steps at c.loop-piece.invariant)

pub overflow_sub-piece : goal.overflow_sub-piece
overflow_sub-piece g c = (turn g (goal.at.overflow_sub-piece g c).In-Some).from

pub overflow_sub-piece-in-loop-piece : goal.overflow_sub-piece-in-loop-piece
overflow_sub-piece-in-loop-piece g c = (turn g (goal.at.overflow_sub-piece-in-loop-piece g c).In-Some).order

pub loop-piece-preserved : goal.loop-piece-preserved
loop-piece-preserved g c =
    let next = turn g (goal.at.loop-piece-preserved g c).In-Some in
    rw (c.in_ok-push.ensures.items) next.next

pub returns : goal.returns
returns g c = Left-end (rw c.in-None.ensures.steps.0 at c.loop-piece.invariant)
