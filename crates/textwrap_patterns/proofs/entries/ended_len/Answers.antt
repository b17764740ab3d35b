use Rattle.textwrap_patterns.proofs.Keys.{longer-after, longer-all}
use Rattle.textwrap_patterns.proofs.entries.ended_len.Goals as goal

pub returns-in-len1-up-clause-longer : goal.returns-in-len1-up-clause-longer
returns-in-len1-up-clause-longer g c = longer-after c.args.depth c.args.entries.now c.requires

pub returns-in_default-2-clause-longer : goal.returns-in_default-2-clause-longer
returns-in_default-2-clause-longer g c =
    longer-all c.args.depth c.args.entries.now c.first-item.result c.requires c.first-item.is (rw c.as_slice.ensures.value at c.if-as_slice-depth.false)
