use Rattle.textwrap_lines.proofs.Common.{IsCharBoundary-start, frame_settings, as_splitter, arith}
use Rattle.textwrap_lines.proofs.first_line.first_line.Goals as goal
use Rattle.textwrap_lines.proofs.PieceLines.{goes_on-start}

pub at-line-requires : goal.at-line-requires
at-line-requires c = IsCharBoundary-start c.args.paragraph.now c.utf8.paragraph

pub loop-line-init : goal.loop-line-init
loop-line-init c =
    let settings = frame_settings c.args.frame.now in
    let splitter = as_splitter c.args.splitter in
    let text = c.args.paragraph.now in
    let front = c.args.frame.now.has_front in
    rw (c.at-line.ensures, c.args.frame.now.first, c.args.frame.now.indented)
    (goes_on-start settings splitter text c.args.frame.now.is_later front c.utf8.paragraph (omega arith)
    c.args.frame.now.front)
