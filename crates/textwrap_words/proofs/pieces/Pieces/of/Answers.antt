use Rattle.textwrap_text.proofs.Common.{arith, rules}
use Rattle.textwrap_words.proofs.{Common.IsCharBoundary-start, Word.SplitParts.pieces-start}
use Rattle.textwrap_words.proofs.pieces.Pieces.of.Goals as goal

pub invariant_of-result : goal.invariant_of-result
invariant_of-result c = record { boundary = IsCharBoundary-start c.args.text.now c.utf8.text }

pub returns : goal.returns
returns c = search (rules, arith, pieces-start)
