use Rattle.textwrap_lines.proofs.inner.paragraph_pieces.Goals as goal
use Rattle.textwrap_lines.proofs.Common.{ap, arith, as_splitter, frame_settings, layout_view, subst}
use Rattle.textwrap_lines.proofs.Common.{pieces_of, stand_from, words_of, ◌∙◌, ◌≡◌}
use Rattle.textwrap_layout.proofs.Paragraph.Pieces.{words_of-texts}
use Rattle.textwrap_layout.proofs.Paragraph.Standing.{limited-pieces}
use Rattle.textwrap_words.specs.PiecesLeft.{standing_left}

pub returns : goal.returns
returns g c =
    let text = c.args.paragraph.now in
    let splitter = as_splitter c.args.splitter in
    let frame = c.of-frame.result in
    subst (λ s. standing_left c.of-2.result ≡ stand_from 0 (pieces_of s splitter text))
    (ap layout_view (c.of-frame.ensures.layout ∙ c.of.ensures))
    (rw (c.of-2.ensures, frame.front, frame.limited) (ap (stand_from 0)
    (limited-pieces (frame_settings frame) splitter text (words_of text) c.utf8.paragraph
    (words_of-texts text c.utf8.paragraph) (omega arith))))
