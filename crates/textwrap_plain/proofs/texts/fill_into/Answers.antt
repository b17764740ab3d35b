use Rattle.textwrap_plain.proofs.texts.fill_into.Goals as goal
use Rattle.std.proofs.lemmas.Grind.{common_steps}
use Rattle.textwrap_lines.proofs.Common.{arith, ending_bytes, join_with, line_bytes, lines_of, map}
use Rattle.textwrap_lines.proofs.Common.{refl}
use Rattle.textwrap_text.specs.LentText.{written_over}

pub returns-in-Some-clause-filled : goal.returns-in-Some-clause-filled
returns-in-Some-clause-filled c =
    let (direct, splitter, first_fit) = c.in-Some.ensures in
    let (taken, found, end, holds) = c.in_ok-fill_to.ensures.lines in
    let are = rw (c.layout.ensures, splitter, first_fit) at found in
    let filled = join_with (ending_bytes c.args.options.now.layout.line_ending)
    (map line_bytes (lines_of taken)) in
    rw (direct.separator, direct.algorithm) (
      filled,
      (lines_of taken, are.are, refl),
      grind (arith, common_steps, written_over, c.len.ensures, c.new-filled.ensures.empty.room),
      grind (arith, common_steps, written_over, c.len.ensures, c.new-filled.ensures.empty.room),
    )
