use Rattle.std.proofs.Common.{arith, get_or, length, List, ℕ, ◌≡◌, ◌++◌, ap, rules, subst, sym, ◌∙◌}
use Rattle.std.proofs.lemmas.{Cmp.nat_list_cmp_total, List.Sorted.answers_always}
use Rattle.std.proofs.lemmas.{List.Sorted.ranks_by, List.Sorted.sorted_far, Result.IfOk-weaker}
use Rattle.textwrap_patterns.proofs.FirstEntries.{first-stable, stands_before}
use Rattle.textwrap_patterns.proofs.GreatestNumbers.{greatest-permutation}
use Rattle.textwrap_patterns.proofs.{LevelsOfKeys.levels-entries, PutNodes.no-parents}
use Rattle.textwrap_patterns.proofs.WrittenLists.{whole-keys}
use Rattle.textwrap_patterns.specs.Entries.{AreSortedFrom, entry_for}
use Rattle.textwrap_patterns.specs.Merging.{AreInOrder, greatest_number, number_in}
use Rattle.textwrap_patterns.specs.{Writing.HaveParents, declared.entries.TrieEntry.TrieEntry}
use Rattle.textwrap_patterns.proofs.merging.push_entries.Goals as goal

pub merged-requires : goal.merged-requires
merged-requires g c =
    let order = ranks_by nat_list_cmp_total (λ (e : TrieEntry g.row.A.Denot). e.key.items) in
    let up = c.in_ok-sort_by.ensures.sorted stands_before order
    (answers_always _ _ _ (λ f a r q k. search rules)) in
    let far : AreInOrder c.sort_by.new.self.items = λ i j d below within.
    sorted_far stands_before order _ up i j d (omega arith) within in
    subst AreInOrder (sym c.deref.ensures.value) far

pub push_trie-requires : goal.push_trie-requires
push_trie-requires g c =
    let same = c.deref-2.ensures.value ∙ sym c.deref-3.ensures.value in
    record {
      parents = subst HaveParents (sym c.no_slots-slots.ensures) no-parents;
      sorted = subst (AreSortedFrom 0) (sym c.deref-2.ensures.value) c.in_ok-merged.ensures.sorted;
      height = λ k d within.
          let high = c.longest_key.ensures k d (omega (arith, within, ap length same)) in
          omega (
            arith,
            high,
            ap (λ (es : List (TrieEntry g.row.A.Denot)). length (get_or es k d).key.items) same,
          );
    }

pub returns-clause-grown : goal.returns-clause-grown
returns-clause-grown g c =
    IfOk-weaker c.write_trie.result _ _ (λ root whole. (whole.added, whole.grown)) c.write_trie.ensures

pub returns-clause-first : goal.returns-clause-first
returns-clause-first g c = λ rule.
    let words = c.write_trie.new.words.items in
    let merged = c.in_ok-merged.merged.items in
    let entries = c.args.entries.items in
    let same : (key : List ℕ) → entry_for 0 merged key ≡ entry_for 0 entries key = λ key.
    c.in_ok-merged.ensures.first rule key
    ∙ ap (λ (es : List (TrieEntry g.row.A.Denot)). entry_for 0 es key) c.deref.ensures.value
    ∙ first-stable key _ _ c.in_ok-sort_by.ensures.permutation
    (c.in_ok-sort_by.ensures.stable stands_before
    (ranks_by nat_list_cmp_total (λ (e : TrieEntry g.row.A.Denot). e.key.items))
    (answers_always _ _ _ (λ f a r q k. search rules))) in
    IfOk-weaker c.write_trie.result _ _ (λ root whole more key.
    whole-keys c.deref-2.result.now c.in_ok-node.node c.in_ok-slot_of.field-0 root c.deref-4.result.now c.deref-5.result.now
    c.push_trie.new.slots.words.items c.push_trie.new.lists.words.items c.args.words.now.items words
    more key c.in_ok-slot_of.ensures c.deref-4.ensures.value c.deref-5.ensures.value whole c.in_ok-node.ensures.trie
    ∙ ap (λ (es : List (TrieEntry g.row.A.Denot)). entry_for 0 es key) c.deref-2.ensures.value ∙ same key)
    c.write_trie.ensures

pub returns-clause-greatest : goal.returns-clause-greatest
returns-clause-greatest g c = λ rule.
    let words = c.write_trie.new.words.items in
    let merged = c.in_ok-merged.merged.items in
    let entries = c.args.entries.items in
    let same : (text : List ℕ) (place : ℕ)
    → greatest_number merged text place ≡ greatest_number entries text place = λ text place.
    c.in_ok-merged.ensures.greatest rule text place
    ∙ ap (λ (es : List (TrieEntry g.row.A.Denot)). greatest_number es text place) c.deref.ensures.value
    ∙ greatest-permutation (λ (e : TrieEntry g.row.A.Denot). number_in e text place) _ _
    c.in_ok-sort_by.ensures.permutation in
    IfOk-weaker c.write_trie.result _ _ (λ root whole more text place.
    levels-entries text (words ++ more) root place merged c.in_ok-merged.ensures.sorted (λ key.
    whole-keys c.deref-2.result.now c.in_ok-node.node c.in_ok-slot_of.field-0 root c.deref-4.result.now c.deref-5.result.now
    c.push_trie.new.slots.words.items c.push_trie.new.lists.words.items c.args.words.now.items words
    more key c.in_ok-slot_of.ensures c.deref-4.ensures.value c.deref-5.ensures.value whole c.in_ok-node.ensures.trie
    ∙ ap (λ (es : List (TrieEntry g.row.A.Denot)). entry_for 0 es key) c.deref-2.ensures.value)
    ∙ same text place)
    c.write_trie.ensures
