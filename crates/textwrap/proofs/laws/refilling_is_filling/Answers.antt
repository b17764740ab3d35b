use Rattle.textwrap.proofs.laws.refilling_is_filling.Goals as goal
use Rattle.textwrap.proofs.Common.{DividesAs}
use Rattle.textwrap.proofs.Text.PlainFilled.{filled-is_plain, refilled-filled, refilled-twice}

pub returns : goal.returns
returns c = record {
  refilled = λ settings splitter algorithm. refilled-filled (DividesAs splitter algorithm) settings;
  plain = filled-is_plain;
  twice = refilled-twice;
}
