use Rattle.textwrap_patterns.proofs.PutNodes.{codes-more, put-more}
use Rattle.textwrap_patterns.specs.{Trie.slot_at, declared.slots.Child.Child}
use Rattle.textwrap_text.proofs.Common.{arith, get_or, suc, ◌+◌, ◌≡◌, get_or_default}
use Rattle.textwrap_patterns.proofs.slots.put_children.Goals as goal

pub loop-child-preserved : goal.loop-child-preserved
loop-child-preserved g c =
    let children = c.args.children.now in
    let i = c.loop-child.child-index in
    let none : Child = record { letter = 0; node = 0 } in
    let child = get_or children i none in
    let is : child ≡ get_or children i child =
    get_or_default children i none child c.loop-child-test.true in
    let coded : child.letter + 1 ≡ suc child.letter = omega arith in
    record {
      put = put-more children i c.args.place (child.letter + 1) c.in_ok-child_slot.field-0 child
          (slot_at c.loop-child.slots.items) (slot_at c.put.new.slots.items)
          (slot_at c.args.slots.now.items) c.loop-child-test.true is coded
          c.in_ok-child_slot.ensures.slot c.loop-child.invariant.put c.in_ok-put.ensures;
      letters = codes-more children i child c.loop-child-test.true is c.loop-child.invariant.letters
          c.child_slot.ensures.letter;
    }
