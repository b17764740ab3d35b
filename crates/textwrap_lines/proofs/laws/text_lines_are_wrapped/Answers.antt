use Rattle.textwrap_lines.proofs.Common.{AreTexts-words, AreWordsOf}
use Rattle.textwrap_lines.proofs.laws.text_lines_are_wrapped.Goals as goal
use Rattle.textwrap_lines.proofs.Text.Printed.{ArePrintedWithin-from}
use Rattle.textwrap_lines.proofs.Text.Promises.{IsWrapped-parts, LinesKeepToWidth-from}

pub returns : goal.returns
returns c = record {
  wrapped = IsWrapped-parts AreWordsOf AreTexts-words;
  even = LinesKeepToWidth-from;
  printed = ArePrintedWithin-from;
}
