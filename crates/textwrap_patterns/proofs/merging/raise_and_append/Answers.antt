use Rattle.std.proofs.Common.{ap, arith, length, ◌∙◌}
use Rattle.std.proofs.lemmas.List.{take_rest, with_items_is}
use Rattle.textwrap_patterns.proofs.GreatestNumbers.{if_ok-appended}
use Rattle.textwrap_patterns.proofs.merging.raise_and_append.Goals as goal

pub returns : goal.returns
returns g c =
    let raised = c.raise.new.numbers in
    let others = c.args.others.now in
    let len = c.min-len.result in
    let same = c.raise.auto.numbers ∙ ap length c.as_mut_slice.ensures.value in
    let vec = with_items_is c.args.numbers.now raised (omega (arith, same, c.args.numbers.now.ok.0)) in
    if_ok-appended c.extend_from_slice.result c.args.numbers.now.items raised others _ len _
    c.extend_from_slice.new.self.items vec (take_rest others len) c.extend_from_slice.ensures.items
    same (omega (arith, c.min-len.ensures, ap length (c.as_slice.ensures.value ∙ vec)))
    (rw c.as_mut_slice.ensures.value at c.raise.ensures)
