use Rattle.textwrap_words.proofs.cut_pieces.next_within.Goals as goal
use Rattle.textwrap_text.proofs.Common.{arith, refl}
use Rattle.textwrap_words.proofs.{Common.as_splitter, Word.FirstPieces.first-within}
use Rattle.textwrap_words.proofs.Word.Texts.{trimmed-boundary}

pub read_on-word_end-requires-clause-end : goal.read_on-word_end-requires-clause-end
read_on-word_end-requires-clause-end c = rw c.requires.trimmed (trimmed-boundary c.args.text.now)

pub returns-then-word_end-word_len : goal.returns-then-word_end-word_len
returns-then-word_end-word_len c =
    first-within (as_splitter c.args.splitter) c.args.limit c.args.text.now c.utf8.text c.args.at
    c.requires.boundary (omega (arith, c.requires.before_blanks, c.requires.trimmed)) c.requires.inside
    c.read_on-word_end.result.0 c.read_on-word_end.result.1 _
    (rw c.requires.trimmed at c.read_on-word_end.ensures) (λ _. refl)
    (λ early. absurd (omega (arith, early, c.if-word_end-word_len.true, c.requires.trimmed)))

pub returns-else-word_end-word_len : goal.returns-else-word_end-word_len
returns-else-word_end-word_len c =
    first-within (as_splitter c.args.splitter) c.args.limit c.args.text.now c.utf8.text c.args.at
    c.requires.boundary (omega (arith, c.requires.before_blanks, c.requires.trimmed)) c.requires.inside
    c.read_on-word_end.result.0 c.read_on-word_end.result.1 _
    (rw c.requires.trimmed at c.read_on-word_end.ensures)
    (λ whole. absurd (omega (arith, whole, c.if-word_end-word_len.false, c.requires.trimmed))) (λ _. refl)
