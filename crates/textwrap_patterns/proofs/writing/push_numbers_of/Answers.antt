use Rattle.textwrap_patterns.proofs.{Keys.entry_for-longer, Keys.longer-all, WrittenLists.list-none}
use Rattle.textwrap_patterns.proofs.writing.push_numbers_of.Goals as goal

pub returns-in_default-2 : goal.returns-in_default-2
returns-in_default-2 g c =
    rw (entry_for-longer c.args.depth c.args.entries.now
    (longer-all c.args.depth c.args.entries.now c.first-item.result c.requires.sorted c.first-item.is
    (rw c.as_slice.ensures.value at c.if-as_slice-depth.false))) (list-none c.args.lists.now.words.items)
