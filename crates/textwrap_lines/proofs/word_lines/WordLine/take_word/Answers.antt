use Rattle.textwrap_lines.proofs.word_lines.WordLine.take_word.Goals as goal
use Rattle.textwrap_lines.proofs.Common.{[], ap, append-nil, frame_settings, map, refl}
use Rattle.textwrap_lines.proofs.Common.{subst, sym, tile_of, tiled, word_view, ◌++◌, ◌∙◌, ◌≡◌}
use Rattle.textwrap_lines.proofs.WordLines.{broken-tile}
use Rattle.textwrap_lines.proofs.Common.{IfOk-weaker}
use Rattle.textwrap_lines.specs.WordLines.{GoesOnBehind}

pub pieces_of_word-requires : goal.pieces_of_word-requires
pieces_of_word-requires g c = c.requires.word.width

pub take_pieces-requires : goal.take_pieces-requires
take_pieces-requires g c = λ k.
    let w = word_view c.args.word.now in
    let (points, are, is) = c.in_ok-pieces.ensures in
    let tile : tiled (map word_view c.deref.result.now) ≡ tile_of w ++ [] =
    ap tiled (ap (map word_view) c.deref.ensures.value ∙ is)
    ∙ broken-tile (frame_settings c.args.frame.now) w points c.requires.word
    (g.met.P.Parts.can_split c.args.parts.now w.word points c.requires.word.utf8 are)
    ∙ sym (append-nil (tile_of w)) in
    let held = tiled (map word_view c.args.held.now.items) in
    let (rest, seam) = c.requires.seam in (
      (refl, tt),
      (
        c.requires.small,
        (
          c.requires.on,
          (c.requires.begins, (rest, seam ∙ ap (λ t. (held ++ t) ++ rest) (sym tile))),
        ),
      ),
    )

pub returns-clause-seam : goal.returns-clause-seam
returns-clause-seam g c =
    let w = word_view c.args.word.now in
    let (points, are, is) = c.in_ok-pieces.ensures in
    let tile : tiled (map word_view c.deref.result.now) ≡ tile_of w ++ [] =
    ap tiled (ap (map word_view) c.deref.ensures.value ∙ is)
    ∙ broken-tile (frame_settings c.args.frame.now) w points c.requires.word
    (g.met.P.Parts.can_split c.args.parts.now w.word points c.requires.word.utf8 are)
    ∙ sym (append-nil (tile_of w)) in
    let held = tiled (map word_view c.args.held.now.items) in
    IfOk-weaker c.take_pieces.result _ _ (λ next has rest seam.
    has rest (seam ∙ ap (λ t. (held ++ t) ++ rest) (sym tile))) c.take_pieces.ensures.seam

pub returns-clause-lines : goal.returns-clause-lines
returns-clause-lines g c =
    let (points, are, is) = c.in_ok-pieces.ensures in
    IfOk-weaker c.take_pieces.result _ _ (λ next goes. (
      points,
      are,
      subst (λ ps. GoesOnBehind g.S.LineSink.holds (frame_settings c.args.frame.now) c.args.self
          (map word_view c.args.held.now.items) c.args.lines.now ps next
          (map word_view c.take_pieces.new.held.items) c.take_pieces.new.lines)
          (ap (map word_view) c.deref.ensures.value ∙ is) goes,
    )) c.take_pieces.ensures.lines
