use Rattle.std.proofs.Common.{arith}
use Rattle.textwrap_patterns.proofs.WrittenLists.{list-written}
use Rattle.textwrap_patterns.proofs.lists.push_list.Goals as goal

pub returns : goal.returns
returns g c =
    list-written c.args.numbers.now c.args.lists.now.words.items c.write_list.new.words.items
    c.len-place.result (omega (arith, c.len-place.ensures, c.args.lists.now.words.ok.0))
    c.in_ok-write_list.ensures
