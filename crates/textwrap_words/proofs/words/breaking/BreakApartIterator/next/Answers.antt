use Rattle.textwrap_words.proofs.words.breaking.BreakApartIterator.next.Goals as goal
use Rattle.textwrap_text.proofs.Common.{nil_from_length, eqb-true, arith}
use Rattle.textwrap_words.proofs.Word.BrokenPieces.{broken_texts-some, broken_texts-nil}
use Rattle.textwrap_words.proofs.Word.BrokenPieces.{pieces_with-more}

pub returns-then-is_empty-clause-steps : goal.returns-then-is_empty-clause-steps
returns-then-is_empty-clause-steps c = grind (arith, nil_from_length, eqb-true, broken_texts-nil)

pub returns-then-is_empty-2-clause-steps : goal.returns-then-is_empty-2-clause-steps
returns-then-is_empty-2-clause-steps c = grind (arith, nil_from_length, eqb-true, broken_texts-nil)

pub returns-clause-steps : goal.returns-clause-steps
returns-clause-steps c = grind (arith, pieces_with-more, broken_texts-some)
