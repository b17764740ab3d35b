use Rattle.std.proofs.Common.{ap, length}
use Rattle.textwrap_patterns.proofs.WrittenLists.{whole-written}
use Rattle.textwrap_patterns.proofs.writing.write_trie.Goals as goal

pub returns : goal.returns
returns g c =
    whole-written c.args.slot _ c.args.slots.now c.args.lists.now c.args.words.now.items
    c.push.new.self.items c.write_list.new.words.items c.extend_from_slice.new.self.items
    (ap length c.as_slice-root.ensures.value) c.in_ok-push.ensures.items c.in_ok-write_list.ensures
    c.in_ok-extend_from_slice.ensures.items
