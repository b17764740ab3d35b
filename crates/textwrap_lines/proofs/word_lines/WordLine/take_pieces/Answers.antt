use Rattle.textwrap_lines.proofs.word_lines.WordLine.take_pieces.Goals as goal
use Rattle.textwrap_lines.proofs.Common.{[], ap, append-nil, append_assoc, arith, drop, drop_all}
use Rattle.textwrap_lines.proofs.Common.{frame_settings, map, refl, subst, sym, take}
use Rattle.textwrap_lines.proofs.Common.{tiled, word_view, ◌++◌, ◌+◌, ◌∙◌, ◌∷◌}
use Rattle.textwrap_lines.proofs.WordLines.{goes_on-none, goes_on-then, standing}
use Rattle.textwrap_lines.specs.WordLines.{GoesOnBehind}
use Rattle.textwrap_text.proofs.Common.{get_or, map_push, take_all, take_more}

pub loop-piece-init : goal.loop-piece-init
loop-piece-init g c = record {
  small = c.requires.small;
  begins = c.requires.begins;
  seam = λ rest seam. seam;
  lines = goes_on-none g.S.LineSink.holds (frame_settings c.args.frame.now) c.args.self _ c.args.lines.now;
  name = refl;
}

pub take_piece-requires : goal.take_piece-requires
take_piece-requires g c = λ k.
    let (on, are, takes) = c.loop-piece.invariant.lines c.requires.on.0 c.requires.on.1 in
    let (rest, seam) = c.requires.seam in (
      (refl, tt),
      (
        c.loop-piece.invariant.small,
        (
          (on, are),
          (
            c.loop-piece.invariant.begins,
            (tiled (map word_view (drop (c.loop-piece.piece-index + 1) c.args.pieces.now)) ++ rest, standing c.args.paragraph.now c.loop-piece.next.start (tiled (map word_view c.loop-piece.held.items)) c.args.pieces.now c.loop-piece.piece-index _ rest c.loop-piece-test.true (c.loop-piece.invariant.seam rest seam)),
          ),
        ),
      ),
    )

pub loop-piece-preserved : goal.loop-piece-preserved
loop-piece-preserved g c =
    let pieces = c.args.pieces.now in
    let i = c.loop-piece.piece-index in
    let held = map word_view c.args.held.now.items in
    let others = tiled (map word_view (drop (i + 1) pieces)) in record {
      small = c.in_ok-next.ensures.small;
      begins = c.in_ok-next.ensures.begins;
      seam = λ rest seam. c.in_ok-next.ensures.seam (others ++ rest) (standing c.args.paragraph.now c.loop-piece.next.start (tiled (map word_view c.loop-piece.held.items)) c.args.pieces.now c.loop-piece.piece-index _ rest c.loop-piece-test.true (c.loop-piece.invariant.seam rest seam))
          ∙ sym (append_assoc (tiled (map word_view c.take_piece.new.held.items)) others rest);
      lines = subst (λ ps. GoesOnBehind g.S.LineSink.holds (frame_settings c.args.frame.now)
          c.args.self held c.args.lines.now ps c.in_ok-next.next
          (map word_view c.take_piece.new.held.items) c.take_piece.new.lines)
          (sym (ap (map word_view) (take_more pieces i _ c.loop-piece-test.true)
          ∙ map_push word_view (take i pieces) (get_or pieces i _)))
          (goes_on-then g.S.LineSink.holds (frame_settings c.args.frame.now) c.args.self
          c.loop-piece.next c.in_ok-next.next held (map word_view c.loop-piece.held.items)
          (map word_view c.take_piece.new.held.items) (map word_view (take i pieces))
          (word_view (get_or pieces i _) ∷ []) c.args.lines.now c.loop-piece.lines
          c.take_piece.new.lines c.loop-piece.invariant.lines c.in_ok-next.ensures.lines);
      name = c.take_piece.ensures.name ∙ c.loop-piece.invariant.name;
    }

pub returns-clause-seam : goal.returns-clause-seam
returns-clause-seam g c = λ rest seam.
    rw (drop_all c.loop-piece.piece-index c.args.pieces.now (omega (arith, c.loop-piece-test.false)))
    at (c.loop-piece.invariant.seam rest seam)
    ∙ ap (λ t. t ++ rest) (append-nil (tiled (map word_view c.loop-piece.held.items)))

pub returns-clause-lines : goal.returns-clause-lines
returns-clause-lines g c =
    subst (λ ps. GoesOnBehind g.S.LineSink.holds (frame_settings c.args.frame.now)
    c.args.self (map word_view c.args.held.now.items) c.args.lines.now (map word_view ps)
    c.loop-piece.next (map word_view c.loop-piece.held.items) c.loop-piece.lines)
    (take_all c.loop-piece.piece-index c.args.pieces.now (omega (arith, c.loop-piece-test.false)))
    c.loop-piece.invariant.lines
