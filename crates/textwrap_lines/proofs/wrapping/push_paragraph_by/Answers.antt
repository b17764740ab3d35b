use Rattle.textwrap_lines.proofs.wrapping.push_paragraph_by.Goals as goal

pub returns-clause-taken : goal.returns-clause-taken
returns-clause-taken g c =
    rw (c.at-frame.ensures.layout, c.at-frame.ensures.later) at c.push_paragraph.ensures.taken
