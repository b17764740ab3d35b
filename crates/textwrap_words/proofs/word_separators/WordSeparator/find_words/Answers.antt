use Rattle.textwrap_words.proofs.word_separators.WordSeparator.find_words.Goals as goal
use Rattle.textwrap_text.proofs.Common.{subst, sym, ◌∙◌, ap}
use Rattle.textwrap_words.proofs.Common.{MaySeparate, tiled}
use Rattle.textwrap_words.proofs.Word.Words.{tiled-words_of, words_unique}

pub returns-in-AsciiSpace-clause-words : goal.returns-in-AsciiSpace-clause-words
returns-in-AsciiSpace-clause-words g c =
    subst (λ separator. MaySeparate separator c.args.line.now c.of_line.result)
    (sym c.in-AsciiSpace.is) ((words_unique c.args.line.now c.of_line.result).1 c.of_line.ensures)

pub returns-in-AsciiSpace-clause-tiles : goal.returns-in-AsciiSpace-clause-tiles
returns-in-AsciiSpace-clause-tiles g c = ap tiled c.of_line.ensures ∙ tiled-words_of c.args.line.now
