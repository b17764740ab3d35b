use Rattle.textwrap_lines.proofs.steps.push_lines_at.Goals as goal

pub push_division-requires-clause-begins : goal.push_division-requires-clause-begins
push_division-requires-clause-begins g c = rw c.deref.ensures.value c.in_ok-division.ensures.begins

pub returns : goal.returns
returns g c = rw (c.deref.ensures.value, c.in_ok-division.ensures.lines) at c.push_division.ensures
