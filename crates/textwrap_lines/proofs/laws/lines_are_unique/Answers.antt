use Rattle.textwrap_lines.proofs.Common.{DividesAs}
use Rattle.textwrap_lines.proofs.laws.lines_are_unique.Goals as goal
use Rattle.textwrap_lines.proofs.Text.Groups.{divided_parts_one, division_one, paragraph_one}
use Rattle.textwrap_lines.proofs.Text.Groups.{filled_one, text_one}

pub returns : goal.returns
returns c = record {
  divided = λ settings algorithm splitter.
      divided_parts_one settings (DividesAs splitter algorithm settings) (division_one settings algorithm splitter);
  paragraph = λ settings algorithm splitter.
      paragraph_one settings (DividesAs splitter algorithm settings) (division_one settings algorithm splitter);
  text = λ settings algorithm splitter.
      text_one settings (DividesAs splitter algorithm settings) (division_one settings algorithm splitter);
  filled = λ settings algorithm splitter.
      filled_one settings (DividesAs splitter algorithm settings) (division_one settings algorithm splitter);
}
