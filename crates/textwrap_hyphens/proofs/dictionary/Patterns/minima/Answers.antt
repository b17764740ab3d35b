use Rattle.std.{proofs.lemmas.List.with_items_is, specs.Vec.with_items}
use Rattle.textwrap_hyphens.proofs.Common.{ap, length, subst, sym, ◌∙◌, ◌≡◌}
use Rattle.textwrap_hyphens.proofs.Minima.{minima-held, minima-length, minima-sealed, still-kept}
use Rattle.textwrap_hyphens.specs.{Numbers.{KeepsLists, held_in}, Seal.{is_sealed, with_minima}}
use Rattle.textwrap_hyphens.proofs.dictionary.Patterns.minima.Goals as goal

pub invariant_of-self : goal.invariant_of-self
invariant_of-self g c =
    let vec = c.args.self.words in
    let words = vec.items in
    let l = c.args.left in
    let r = c.args.right in
    let set : c.set_minima.new.words ≡ with_minima l r words =
    c.set_minima.ensures.minima ∙ ap (with_minima l r) c.deref_mut.ensures.value in
    let items : (with_items vec c.set_minima.new.words).items ≡ with_minima l r words =
    with_items_is vec c.set_minima.new.words
    (ap length set ∙ minima-length words l r c.args.self.sealed ∙ sym vec.ok.0) ∙ set in
    record {
      sealed = ap is_sealed items ∙ minima-sealed words l r c.args.self.sealed;
      kept = subst KeepsLists (sym items) (still-kept words l r c.args.self.kept);
    }

pub returns : goal.returns
returns g c =
    let vec = c.args.self.words in
    let words = vec.items in
    let l = c.args.left in
    let r = c.args.right in
    let set : c.set_minima.new.words ≡ with_minima l r words =
    c.set_minima.ensures.minima ∙ ap (with_minima l r) c.deref_mut.ensures.value in
    let items : (with_items vec c.set_minima.new.words).items ≡ with_minima l r words =
    with_items_is vec c.set_minima.new.words
    (ap length set ∙ minima-length words l r c.args.self.sealed ∙ sym vec.ok.0) ∙ set in
    ap (λ w. held_in w c.args.self.in_parts) items
    ∙ minima-held words l r c.args.self.in_parts c.args.self.kept
