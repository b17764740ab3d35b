use Rattle.textwrap_words.proofs.pieces.next_piece.Goals as goal
use Rattle.textwrap_text.proofs.Common.{BlanksBetween, get_or, length, ne_eqb, arith, subst, ◌∙◌}
use Rattle.textwrap_text.proofs.Common.{ap}
use Rattle.textwrap_words.specs.Pieces.{as_splitter}
use Rattle.textwrap_words.proofs.Word.Pieces.{word-stands, blanks-end}

pub returns-clause-boundary : goal.returns-clause-boundary
returns-clause-boundary c =
    let bytes = c.as_bytes.ensures.value in
    let found = c.blanks_end.ensures in
    let end = c.blanks_end.result in
    let (word_end, width) = c.first_word-word_end.result in
    blanks-end (as_splitter c.args.splitter) c.args.limit c.args.text.now c.args.at word_end width
    c.first_word-word_end.ensures end found.after (omega (arith, found.within, ap length bytes))
    (subst (λ bs. BlanksBetween bs word_end end) bytes found.blanks) c.utf8.text

pub returns-clause-first : goal.returns-clause-first
returns-clause-first c =
    let bytes = c.as_bytes.ensures.value in
    let found = c.blanks_end.ensures in
    let end = c.blanks_end.result in
    let (word_end, width) = c.first_word-word_end.result in
    word-stands (as_splitter c.args.splitter) c.args.limit c.args.text.now c.args.at word_end width
    c.first_word-word_end.ensures end found.after (omega (arith, found.within, ap length bytes))
    (subst (λ bs. BlanksBetween bs word_end end) bytes found.blanks)
    (λ inside. ne_eqb (get_or c.args.text.now end 0) 32
    (λ is. found.stops (omega (arith, inside, ap length bytes))
    (ap (λ bs. get_or bs end 0) bytes ∙ is)))
