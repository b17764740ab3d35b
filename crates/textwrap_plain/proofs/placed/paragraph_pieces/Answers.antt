use Rattle.textwrap.proofs.Common.{IfOk-weaker, word_view, map, ◌≡◌}
use Rattle.textwrap_plain.proofs.Split.{pieces-from}
use Rattle.textwrap_plain.specs.Options.{plain_settings, points_by, words_by}
use Rattle.textwrap_plain.proofs.placed.paragraph_pieces.Goals as goal

pub returns-clause-pieces : goal.returns-clause-pieces
returns-clause-pieces c =
    let o = c.args.options.now in
    let words = words_by o.word_separator in
    IfOk-weaker c.find_pieces.result _ _ (λ pieces.
    pieces-from (points_by o.word_splitter) (λ line ws. ws ≡ words line) words (λ line ws is. is)
    (plain_settings o) c.args.paragraph.now (map word_view pieces.items))
    (rw (c.of-frame.ensures.layout, c.layout.ensures, c.parts.ensures.words, c.parts.ensures.splitter)
    at c.find_pieces.ensures.pieces)
