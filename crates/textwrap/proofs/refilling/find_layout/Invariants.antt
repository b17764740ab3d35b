use Rattle.textwrap.proofs.refilling.find_layout.Given as goal
use Rattle.textwrap.proofs.Common.{unfilled_subsequent, unfilled_width, common_prefix, line_prefix}
use Rattle.textwrap.proofs.Common.{text_width, texts_of, IsAscii, IfSome, fold, ◌++◌, map, max, ◌≡◌}
use Rattle.textwrap.proofs.Text.Unfilling.{texts_in}

-- the widest line so far, and the lines to come, make the width; what the later lines have had in
-- common so far, and the prefixes to come, make the subsequent indent
abbrev pub invariant-loop-line : goal.invariant-loop-line
invariant-loop-line l = record {
  width : fold max l.width (map text_width (texts_of l.line-iterator)) ≡ unfilled_width l.text;
  common : common_prefix (texts_in l.common ++ map line_prefix (texts_of l.line-iterator))
      ≡ unfilled_subsequent l.text;
  ascii : IfSome l.common (λ common. IsAscii common.now);
}
