use Rattle.textwrap_text.proofs.Common.{arith, drop_more}
use Rattle.textwrap_patterns.proofs.LevelsRaised.{numbers-none}
use Rattle.textwrap_patterns.proofs.lookup.Trie.numbers_for.Goals as goal

pub returns-then-node-eq-EMPTY : goal.returns-then-node-eq-EMPTY
returns-then-node-eq-EMPTY c = grind (arith, numbers-none, drop_more)
