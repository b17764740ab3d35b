use Rattle.textwrap.proofs.laws.indents_are_parts.Goals as goal
use Rattle.textwrap.proofs.Text.Margins.{ended_parts-indented, ended_parts_one, indents-removed}
use Rattle.textwrap.proofs.Text.Margins.{indented-whole, indents-back, text-removed}

pub returns : goal.returns
returns c = record {
  cut = ended_parts_one;
  parts = ended_parts-indented;
  whole = indented-whole;
  come_off = λ prefix text free whole.
      (indents-removed prefix text free whole, text-removed prefix text free whole);
  come_back = λ prefix text utf8. indents-back prefix utf8 text;
}
