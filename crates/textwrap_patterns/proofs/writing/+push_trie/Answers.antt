use Rattle.std.proofs.lemmas.{List.take_rest, Result.IfOk-weaker}
use Rattle.textwrap_patterns.proofs.PutNodes.{later-later}
use Rattle.textwrap_patterns.proofs.TrieSoFar.{group-sorted, left-height, letter-first, written-end}
use Rattle.textwrap_patterns.proofs.TrieSoFar.{written-next, written-start}
use Rattle.textwrap_text.proofs.Common.{arith, length, sym, ◌+◌, ◌-◌, ◌<◌, ◌∙◌, ◌≤◌}
use Rattle.textwrap_text.proofs.Common.{nil_from_length, All-take, eqb-true}
use Rattle.textwrap_patterns.proofs.writing.+push_trie.Goals as goal

pub loop-left-init : goal.loop-left-init
loop-left-init g t c =
    rw (take_rest c.args.entries.now c.ended_len-ended.result, c.new-children.ensures.items)
    (written-start c.args.depth c.in_ok-numbers.numbers c.ended_len-ended.result c.args.entries.now
    c.args.slots.now.words.items c.args.lists.now.words.items c.push_numbers_of.new.lists.words.items
    c.requires.parents c.in_ok-numbers.ensures
    c.ended_len-ended.ensures.ended c.ended_len-ended.ensures.longer)

pub overflow_sub-height : goal.overflow_sub-height
overflow_sub-height g t c =
    (left-height c.args.depth c.in_ok-numbers.numbers c.args.height c.args.entries.now
    c.loop-left.left.now c.loop-left.children.items c.args.slots.now.words.items
    c.loop-left.slots.words.items c.args.lists.now.words.items c.loop-left.lists.words.items
    c.index-left-0.result (omega (arith, c.group_len.ensures.some, c.group_len.ensures.within))
    c.requires.height c.loop-left.invariant).0

pub push_trie-requires : goal.push_trie-requires
push_trie-requires g t c =
    let left = c.loop-left.left.now in
    let some : 0 < length left = omega
    (arith, c.group_len.ensures.some, c.group_len.ensures.within) in
    let letter = letter-first c.args.depth c.index-as_slice-depth.result left c.index-left-0.result
    c.as_slice.result.now some c.loop-left.invariant.longer
    c.as_slice.ensures.value c.index-as_slice-depth.is in
    let high = left-height c.args.depth c.in_ok-numbers.numbers c.args.height c.args.entries.now
    left c.loop-left.children.items c.args.slots.now.words.items c.loop-left.slots.words.items
    c.args.lists.now.words.items c.loop-left.lists.words.items
    c.index-left-0.result some c.requires.height c.loop-left.invariant in
    λ k outlives. (
      omega (arith, high.0, c.decreases),
      (
        outlives,
        (
          c.loop-left.invariant.parents,
          (
            rw c.split_at.ensures.front (group-sorted c.args.depth c.in_ok-numbers.numbers
                c.group_len.result c.index-as_slice-depth.result c.args.entries.now left
                c.loop-left.children.items c.args.slots.now.words.items c.loop-left.slots.words.items
                c.args.lists.now.words.items c.loop-left.lists.words.items
                c.index-left-0.result c.requires.sorted c.group_len.ensures c.loop-left.invariant letter),
            rw c.split_at.ensures.front (All-take (λ e. length e.key.items
                ≤ (c.args.depth + 1) + (c.args.height - 1)) c.group_len.result left high.1),
          ),
        ),
      ),
    )

pub loop-left-smaller : goal.loop-left-smaller
loop-left-smaller g t c =
    let smaller : length c.split_at.result.1.now < length c.loop-left.left.now =
    omega (arith, c.split_at.ensures.back_len, c.group_len.ensures.some) in smaller

pub loop-left-preserved : goal.loop-left-preserved
loop-left-preserved g t c =
    let left = c.loop-left.left.now in
    let some : 0 < length left = omega
    (arith, c.group_len.ensures.some, c.group_len.ensures.within) in
    let letter = letter-first c.args.depth c.index-as_slice-depth.result left c.index-left-0.result
    c.as_slice.result.now some c.loop-left.invariant.longer
    c.as_slice.ensures.value c.index-as_slice-depth.is in
    let (added, grown) = c.in_ok-node.ensures.grown in
    rw (c.split_at.ensures.back, c.in_ok-push.ensures.items, c.make_child.ensures.child)
    (written-next c.args.depth c.in_ok-numbers.numbers
    c.group_len.result c.index-as_slice-depth.result c.args.entries.now left
    c.loop-left.children.items c.args.slots.now.words.items c.loop-left.slots.words.items
    c.args.lists.now.words.items c.loop-left.lists.words.items
    c.index-left-0.result c.requires.sorted c.group_len.ensures c.loop-left.invariant letter
    c.in_ok-node.node c.push_trie.new.slots.words.items c.push_trie.new.lists.words.items added
    c.in_ok-node.ensures.parents c.make_child.ensures.code c.in_ok-node.ensures.later grown
    (rw c.split_at.ensures.front at c.in_ok-node.ensures.trie))

pub returns-clause-parents : goal.returns-clause-parents
returns-clause-parents g t c =
    IfOk-weaker c.push_node.result _ _ (λ node is. is.parents) c.push_node.ensures

pub returns-clause-later : goal.returns-clause-later
returns-clause-later g t c =
    IfOk-weaker c.push_node.result _ _ (λ node is.
    later-later c.args.slots.now.words.items c.loop-left.slots.words.items
    c.push_node.new.slots.words.items c.loop-left.invariant.later is.later) c.push_node.ensures

pub returns-clause-grown : goal.returns-clause-grown
returns-clause-grown g t c =
    IfOk-weaker c.push_node.result _ _ (λ node is.
    (c.loop-left.invariant.added, c.loop-left.invariant.grown)) c.push_node.ensures

pub returns-clause-trie : goal.returns-clause-trie
returns-clause-trie g t c =
    let none = nil_from_length c.loop-left.left.now
    (eqb-true _ _ (sym c.is_empty.ensures ∙ c.loop-left-test.false)) in
    IfOk-weaker c.push_node.result _ _ (λ node is.
    written-end c.args.depth c.in_ok-numbers.numbers node c.args.entries.now c.deref.result.now
    c.args.slots.now.words.items c.loop-left.slots.words.items c.push_node.new.slots.words.items
    c.args.lists.now.words.items c.loop-left.lists.words.items
    (rw (none, sym c.deref.ensures.value) at c.loop-left.invariant) is.later is) c.push_node.ensures
