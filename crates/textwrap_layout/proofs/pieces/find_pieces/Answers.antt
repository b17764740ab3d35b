use Rattle.textwrap_layout.proofs.pieces.find_pieces.Goals as goal
use Rattle.textwrap_text.proofs.Common.{map, refl}
use Rattle.textwrap_layout.proofs.Common.{AreWordsCut, frame_settings, IfOk-weaker, word_view, words_cut}
use Rattle.textwrap_layout.proofs.Paragraph.Pieces.{pieces-tile, AreWordsCut-texts}

pub returns : goal.returns
returns g c =
    let (cuts, can, words_are, split_are) = c.in_ok-split.ensures in
    let paragraph = c.args.paragraph.now in
    let words = words_cut cuts paragraph in
    let split = map word_view c.in_ok-split.split.items in
    let settings = frame_settings c.args.frame.now in
    let points = (g.P.Parts.may c.args.parts.now).Points in
    let cut = IfOk-weaker c.break_pieces.result _ _ (λ pieces are.
    (words, split, (cuts, can, refl), split_are, are)) c.break_pieces.ensures in
    record {
      pieces = IfOk-weaker c.break_pieces.result _ _ (λ pieces are.
          (words, split, words_are, split_are, are)) c.break_pieces.ensures;
      cut = cut;
      tiles = IfOk-weaker c.break_pieces.result _ _ (λ pieces.
          pieces-tile settings AreWordsCut points AreWordsCut-texts
          (g.met.P.Parts.can_split c.args.parts.now) paragraph (map word_view pieces.items)
          c.utf8.paragraph) cut;
    }
