use Rattle.textwrap_text.proofs.Common.{arith, refl, rules}
use Rattle.textwrap_words.proofs.Word.Parts.{MayCut-cuts}
use Rattle.textwrap_words.proofs.word_separators.words.given_cuts.Goals as goal

pub returns-clause-given : goal.returns-clause-given
returns-clause-given g c =
    (c.args.line_cuts.alloc, c.args.line, c.in_ok-cuts.cuts, refl, refl, c.in_ok-cuts.ensures.0)

pub returns-clause-inner : goal.returns-clause-inner
returns-clause-inner g c = search (rules, arith, MayCut-cuts, returns-clause-given)
