use Rattle.textwrap_lines.proofs.wrapping.push_line.Goals as goal
use Rattle.textwrap_lines.proofs.Common.{[], layout_view, slice_range, StartsWith, take-append-drop}
use Rattle.textwrap_lines.proofs.Common.{covered, cut_line, length, subst, tiled, Pushed, word_view}
use Rattle.textwrap_lines.proofs.Common.{ap, cond, drop, map, sym, ◌&&◌, ◌++◌, ◌==◌, ◌∙◌, ◌∷◌, ◌≡◌}
use Rattle.std.proofs.Math.Bool.{and_comm}
use Rattle.textwrap_layout.proofs.Paragraph.LeftOff.{line_from-parts_of}
use Rattle.textwrap_lines.proofs.PieceLines.{slice-pieces}

pub returns-clause-line : goal.returns-clause-line
returns-clause-line g c =
    let settings = layout_view c.args.layout.now in
    let last = c.in-Some.last.now in
    let words = map word_view (c.in-Some.front.now ++ last ∷ []) in
    let start = c.args.start in
    let rest = drop start c.args.paragraph.now in
    let bounds = c.bounds_of-bounds.result in
    let keeps = (length last.penalty.now == 0) && settings.preserve_trailing_space in
    let begins = subst (λ ps. StartsWith rest (tiled (map word_view ps))) c.in-Some.ensures.cases.0
    c.requires.begins in
    let seam = sym (take-append-drop (length (tiled words)) rest)
    ∙ ap (λ l. l ++ drop (length (tiled words)) rest) begins in
    let slice : slice_range c.args.paragraph.now start (cond keeps bounds.end bounds.word_end)
    ≡ cond keeps (tiled words) (covered words) =
    rw (c.bounds_of-bounds.ensures.end, c.bounds_of-bounds.ensures.word_end)
    (slice-pieces c.args.paragraph.now start words _ keeps seam) in
    subst (λ line. Pushed g.S.LineSink.holds c.args.lines.now c.push_between.new.lines
    (cut_line start line ∷ []))
    (line_from-parts_of settings c.args.is_later c.args.pieces.now c.in-Some.front.now last
    c.next_indent-indent.result.now _ keeps c.in-Some.ensures.cases.0 c.next_indent-indent.ensures
    (and_comm (length last.penalty.now == 0) settings.preserve_trailing_space) slice)
    (rw c.bounds_of-bounds.ensures.start at c.in_ok-push_between.ensures.pushed)
