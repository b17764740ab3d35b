use Rattle.textwrap_lines.proofs.spans.find_spans.Goals as goal
use Rattle.textwrap_lines.proofs.Common.{append-nil, frame_settings, left_standing, words_cut-texts}
use Rattle.textwrap_lines.proofs.Common.{append_assoc, arith, as_splitter, cuts_of, words_cut, ◌++◌}
use Rattle.textwrap_lines.proofs.Common.{ap, subst, sym, ℕ, ◌∙◌, ◌≤◌}
use Rattle.textwrap_layout.specs.Direct.{pieces_cut}
use Rattle.textwrap_lines.specs.PieceLines.{ComesAt}
use Rattle.textwrap_lines.proofs.PieceLines.{AllCome, pieces-come}
use Rattle.textwrap_lines.proofs.PlacedPieces.{spans_of, spans_of-standing}
use Rattle.textwrap_lines.proofs.spans.find_spans.Goals.{In-Some}

pub loop-piece-init : goal.loop-piece-init
loop-piece-init g c =
    let paragraph = c.args.paragraph.now in
    let cuts = c.args.cuts.now in
    record {
      are = ap (λ spans. spans ++ spans_of 0 (left_standing c.into_iter-piece-iterator.result))
          c.new-spans.ensures.items;
      come = (
        0,
        omega arith,
        subst (AllCome paragraph 0)
            (sym (ap left_standing c.into_iter-piece-iterator.ensures.into_iter_gives
            ∙ c.cut_paragraph-piece-items.ensures))
            (pieces-come (frame_settings c.args.frame.now) (as_splitter cuts.splitter) paragraph
            (words_cut (cuts_of cuts) paragraph) c.utf8.paragraph
            (words_cut-texts (cuts_of cuts) paragraph c.utf8.paragraph c.requires)),
      );
    }

-- the piece that the iterator gives, and those after it
turn : (g : _) (c : In-Some g) → (at : ℕ) × (c.loop-piece.opens ≤ at)
    × ComesAt c.args.paragraph.now at c.in-Some.piece
    × AllCome c.args.paragraph.now c.in-Some.piece.end (left_standing c.next.new.self)
turn g c =
    let (at, room, come) = c.loop-piece.invariant.come in
    let both = subst (AllCome c.args.paragraph.now at) c.in-Some.ensures.steps come in
    (at, room, both.0, both.1)

pub overflow_sub-opens : goal.overflow_sub-opens
overflow_sub-opens g c =
    let (at, room, here, left) = turn g (goal.at.overflow_sub-opens g c).In-Some in here.order

pub overflow_add-closes : goal.overflow_add-closes
overflow_add-closes g c =
    let (at, room, here, left) = turn g (goal.at.overflow_add-closes g c).In-Some in
    omega (arith, room, here.width, here.word_ends.0)

pub overflow_add-opens : goal.overflow_add-opens
overflow_add-opens g c =
    let (at, room, here, left) = turn g (goal.at.overflow_add-opens g c).In-Some in
    omega (arith, room, here.width, here.order, here.ends.0)

pub loop-piece-preserved : goal.loop-piece-preserved
loop-piece-preserved g c =
    let (at, room, here, left) = turn g (goal.at.loop-piece-preserved g c).In-Some in
    record {
      are = rw (c.in_ok-push.ensures.items, append_assoc)
          (rw c.in-Some.ensures.steps at c.loop-piece.invariant.are);
      come = (c.in-Some.piece.end, omega (arith, room, here.width, here.order), left);
    }

pub returns : goal.returns
returns g c = sym (append-nil c.loop-piece.spans.items)
    ∙ (rw c.in-None.ensures.steps.0 at c.loop-piece.invariant.are)
    ∙ ap (λ l. spans_of 0 (left_standing l)) c.into_iter-piece-iterator.ensures.into_iter_gives
    ∙ ap (spans_of 0) c.cut_paragraph-piece-items.ensures ∙ spans_of-standing 0 0
    (pieces_cut (frame_settings c.args.frame.now) c.args.cuts.now c.args.paragraph.now)
