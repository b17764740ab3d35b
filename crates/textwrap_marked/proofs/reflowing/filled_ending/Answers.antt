use Rattle.textwrap_marked.proofs.reflowing.filled_ending.Goals as goal
use Rattle.textwrap_marked.proofs.Common.{sym, ◌∙◌, ap}
use Rattle.textwrap_marked_lines.proofs.ReadLemmas.{fed-is}
use Rattle.textwrap_marked.specs.Reflow.{ending_of_line, first_ending}

pub returns-in-None : goal.returns-in-None
returns-in-None c = rw c.in-None.is (c.ending_of.ensures
    ∙ ap (ending_of_line c.split_at.result.0.now) (c.is_some.ensures ∙ fed-is c.split_at.result.1)
    ∙ ap first_ending (sym c.split_at.ensures.parts))
