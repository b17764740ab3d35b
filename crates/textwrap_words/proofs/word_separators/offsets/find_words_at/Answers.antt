use Rattle.textwrap_text.proofs.Common.{arith, rules}
use Rattle.std.proofs.lemmas.Result.{IfOk-weaker}
use Rattle.textwrap_words.proofs.Word.{Cuts.inner-cuts, Offsets.cuts_at-AreInnerCuts}
use Rattle.textwrap_words.proofs.Word.Parts.{parts_between-tile}
use Rattle.textwrap_words.proofs.word_separators.offsets.find_words_at.Goals as goal

pub words_between-requires : goal.words_between-requires
words_between-requires g c = search (rules, arith, inner-cuts, cuts_at-AreInnerCuts)

pub returns-clause-tiles : goal.returns-clause-tiles
returns-clause-tiles g c =
    search (rules, arith, inner-cuts, cuts_at-AreInnerCuts, IfOk-weaker, parts_between-tile)
