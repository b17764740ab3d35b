use Rattle.textwrap_text.proofs.{Common.arith, Common.rules, Lists.Parts.from_start}
use Rattle.textwrap_text.proofs.Common.{common_steps, IsCharBoundary-after_ascii, take-append-add}
use Rattle.textwrap_text.proofs.TextLines.{ended_lines-front, ended_lines-whole, with_ending-feed}
use Rattle.std.proofs.Math.Seq.{get_or-append_seam}
use Rattle.textwrap_text.proofs.text_lines.Lines.first.Goals as goal

pub returns-in_default : goal.returns-in_default
returns-in_default c = search (rules, arith, ended_lines-whole)

pub range-whole-requires-clause-end_boundary : goal.range-whole-requires-clause-end_boundary
range-whole-requires-clause-end_boundary c =
    grind (arith, common_steps, IsCharBoundary-after_ascii, get_or-append_seam)

pub invariant_of-line-2 : goal.invariant_of-line-2
invariant_of-line-2 c = grind (arith, take-append-add, common_steps, from_start, with_ending-feed)

pub returns : goal.returns
returns c = search (rules, arith, ended_lines-front)
