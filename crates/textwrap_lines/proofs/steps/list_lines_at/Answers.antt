use Rattle.textwrap_lines.proofs.steps.list_lines_at.Goals as goal

pub list_division-requires : goal.list_division-requires
list_division-requires g c = rw c.deref.ensures.value c.in_ok-division.ensures.begins

pub returns : goal.returns
returns g c = rw (c.deref.ensures.value, c.in_ok-division.ensures.lines) at c.list_division.ensures
