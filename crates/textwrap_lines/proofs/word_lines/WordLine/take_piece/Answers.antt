use Rattle.textwrap_lines.proofs.word_lines.WordLine.take_piece.Goals as goal
use Rattle.textwrap_lines.proofs.word_lines.WordLine.take_piece.Goals.{else-not-is_empty-via-else-not-is_empty}
use Rattle.textwrap_lines.proofs.word_lines.WordLine.take_piece.Goals.{else-not-is_empty-via-then-not-is_empty+else-is_past}
use Rattle.textwrap_lines.proofs.Common.{[], ap, append_assoc, arith, drop, drop-drop, drop_at}
use Rattle.textwrap_lines.proofs.Common.{frame_settings, length, length-map, map, refl, sym, tiled}
use Rattle.textwrap_lines.proofs.Common.{word_view, ◌++◌, ◌∙◌}
use Rattle.textwrap_lines.proofs.Common.{tile_of}
use Rattle.textwrap_lines.proofs.WordLines.{columns-none, takes-full, takes-room}
use Rattle.textwrap_text.proofs.Common.{eqb-false, eqb-true, map_push}

pub with-requires-2 : goal.with-requires-2
with-requires-2 g c = elim c.else-not-is_empty.branch [
  | else-not-is_empty-via-then-not-is_empty+else-is_past w ↦ w.is_past.ensures.small w.if-is_past.false
  | else-not-is_empty-via-else-not-is_empty w ↦
      omega (
        arith,
        columns-none c.args.self c.args.held.now.items c.requires.on
            (omega (arith, c.args.held.now.ok, eqb-true c.args.held.now.len 0 (sym w.if-not-is_empty.ensures))),
      )
]

pub returns-then-is_past-clause-seam : goal.returns-then-is_past-clause-seam
returns-then-is_past-clause-seam g c = λ rest seam.
    let held = tiled (map word_view c.args.held.now.items) in
    let begins = sym (drop-drop (length held) c.args.self.start c.args.paragraph.now)
    ∙ ap (drop (length held)) (seam ∙ append_assoc held (tile_of (word_view c.args.piece.now) ++ []) rest)
    ∙ drop_at held ((tile_of (word_view c.args.piece.now) ++ []) ++ rest) (length held) refl in
    rw (c.with.ensures.more, c.in_ok-next.ensures.next, c.in_ok-push.ensures.items, c.in_ok-next.ensures.emptied) begins

pub returns-then-is_past-clause-lines : goal.returns-then-is_past-clause-lines
returns-then-is_past-clause-lines g c =
    let settings = frame_settings c.args.frame.now in
    let held = c.args.held.now.items in
    rw (c.with.ensures.more, c.in_ok-next.ensures.next, c.in_ok-push.ensures.items, c.in_ok-next.ensures.emptied)
    (takes-full g.S.LineSink.holds settings c.args.self (map word_view held) c.args.lines.now
    (word_view c.args.piece.now) c.close.new.lines
    (omega (arith, c.args.held.now.ok, length-map held word_view, eqb-false c.args.held.now.len 0 (sym c.if-not-is_empty.ensures)))
    (c.is_past.ensures.past.0 c.if-is_past.true) c.in_ok-next.ensures.pushed)

pub returns-clause-lines : goal.returns-clause-lines
returns-clause-lines g c =
    let frame = c.args.frame.now in
    let held = c.args.held.now.items in
    rw (c.with-2.ensures.more, c.in_ok-push-2.ensures.items, map_push)
    (takes-room g.S.LineSink.holds (frame_settings frame) c.args.self (map word_view held)
    c.args.lines.now (word_view c.args.piece.now) (λ some. elim c.else-not-is_empty.branch [
      | else-not-is_empty-via-then-not-is_empty+else-is_past w ↦ search (arith, w.is_past.ensures.past, w.if-is_past.false)
      | else-not-is_empty-via-else-not-is_empty w ↦
          absurd (omega (
            arith,
            some,
            length-map held word_view,
            c.args.held.now.ok,
            eqb-true c.args.held.now.len 0 (sym w.if-not-is_empty.ensures),
          ))
    ]))
