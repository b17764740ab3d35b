use Rattle.textwrap_hyphens.{proofs.Common.{drop, ◌≡◌}, specs.Seal.{sum_of, summed}}
use Rattle.textwrap_hyphens.proofs.table.sum_of.Given as goal

-- the sum so far, with what is to come
abbrev pub invariant-loop-word : goal.invariant-loop-word
invariant-loop-word l = summed l.sum (drop l.word-index l.words) ≡ sum_of l.words
