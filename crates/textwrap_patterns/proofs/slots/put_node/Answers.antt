use Rattle.std.proofs.Common.{ap, arith, cond, eqb, ◌*◌, ◌≡◌, ◌∙◌}
use Rattle.textwrap_patterns.{proofs.PutNodes.put-node, specs.Trie.slot_at, specs.Writing.slot_for}
use Rattle.textwrap_patterns.proofs.slots.put_node.Goals as goal

pub returns : goal.returns
returns g c =
    let old = c.args.slots.now.items in
    let children = c.args.children.now in
    let place = c.args.place in
    let list = c.list_and_kind-list.result.0 in
    let own : c.in_ok-slot_of.field-0 ≡ list * 0x800000 =
    omega (arith, c.in_ok-slot_of.ensures, c.in_ok-node_at.ensures.node) in
    put-node old c.put_children.new.slots.items place list children c.requires.parents c.requires.free
    c.in_ok-put_children.ensures.letters
    (λ at. c.in_ok-put_children.ensures.put at
    ∙ ap (slot_for children place at) (c.in_ok-put.ensures at
    ∙ ap (λ s. cond (eqb at place) s (slot_at old at)) own))
    c.args.numbers c.list_and_kind-list.result.1 c.in_ok-node.node c.in_ok-node.ensures.node
    c.list_and_kind-list.ensures.kind
