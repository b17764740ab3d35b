use Rattle.textwrap_hyphens.proofs.Common.{[], List, append_assoc, ap, arith, length, length-append, map, refl}
use Rattle.textwrap_hyphens.proofs.Common.{false, ℕ, slice_index, subst, sym, ◌++◌, ◌∙◌, ◌∷◌, ◌≡◌}
use Rattle.textwrap_hyphens.proofs.{Minima.lists-kept, SealLemmas.is-sealed, TableOf.table-says}
use Rattle.textwrap_hyphens.specs.{Building.entries_view, Building.pattern_of, Levels.longest}
use Rattle.textwrap_hyphens.specs.{Numbers.KeepsLists, Numbers.held_in, Seal.is_sealed, Seal.sum_of, Seal.version}
use Rattle.textwrap_patterns.specs.Trie.{level_from, numbers_for}
use Rattle.textwrap_hyphens.proofs.building.write_table.Goals as goal

pub returns : goal.returns
returns g c =
    let one = c.push_entries.new.words.items in
    let two = c.push_entries-2.new.words.items in
    let body = c.push_entries-3.new.words.items in
    let es = c.args.listed in
    let mins = c.args.minima in
    let n = c.len-count.result in
    let jm = c.longest_key-longest_joint.result in
    let m = c.longest_key-longest.result in
    let pa = c.in_ok-patterns.patterns in
    let ex = c.in_ok-exceptions.exceptions in
    let jo = c.in_ok-joints.joints in
    let sum = c.sum_of-sum.result in
    let before = es.changed ∷ n ∷ jo ∷ jm ∷ mins.compound_left ∷ mins.compound_right ∷ ex ∷ pa ∷ m ∷ [] in
    let eleven = es.changed ∷ n ∷ jo ∷ jm ∷ mins.compound_left ∷ mins.compound_right ∷ ex ∷ pa ∷ m ∷ mins.left ∷ mins.right ∷ [] in
    let first = c.extend_from_slice.new.self.items in
    let whole : c.push-2.new.self.items ≡ (body ++ before) ++ mins.left ∷ mins.right ∷ sum ∷ [] =
    c.in_ok-push-2.ensures.items
    ∙ ap (λ l. l ++ sum ∷ []) c.in_ok-extend_from_slice.ensures.items
    ∙ append_assoc body eleven (sum ∷ [])
    ∙ sym (append_assoc body before (mins.left ∷ mins.right ∷ sum ∷ [])) in
    let (added_first, grown_first) = c.in_ok-patterns.ensures.grown in
    let (added_second, grown_second) = c.in_ok-exceptions.ensures.grown in
    let (added, grown) = c.in_ok-joints.ensures.grown in
    let behind_two = λ (more : List ℕ).
    ap (λ w. w ++ more) grown ∙ append_assoc two added more in
    let behind_one = λ (more : List ℕ).
    behind_two more ∙ ap (λ w. w ++ (added ++ more)) grown_second
    ∙ append_assoc one added_second (added ++ more) in
    let keys = λ (more key : List ℕ).
    ap (λ w. numbers_for key w ex) (behind_two more)
    ∙ c.in_ok-exceptions.ensures.first refl (added ++ more) key in
    let levels = λ (more text : List ℕ) (place : ℕ).
    ap (λ w. level_from text w pa place) (behind_one more)
    ∙ c.in_ok-patterns.ensures.greatest refl (added_second ++ (added ++ more)) text place in
    let front = (added_first ++ added_second) ++ added in
    let shape : first ≡ version ∷ front ++ eleven =
    c.in_ok-extend_from_slice.ensures.items
    ∙ ap (λ l. l ++ eleven) (grown ∙ ap (λ l. l ++ added) (grown_second
    ∙ ap (λ l. l ++ added_second) (grown_first
    ∙ ap (λ l. l ++ added_first) (c.in_ok-push.ensures.items
    ∙ ap (λ l. l ++ version ∷ []) c.new-words.ensures.items)))) in
    let size = length-append front eleven in
    let told : n ≡ es.joints.len = c.len-count.ensures in
    let count : n ≡ length es.joints.items = omega (arith, told, es.joints.ok.0) in
    let says = λ (l r s : ℕ).
    ap (λ w. held_in w false) (append_assoc body before (l ∷ r ∷ s ∷ []))
    ∙ table-says body n jo jm ex pa m s es (record mins { left = l; right = r }) count
    (c.longest_key-longest_joint.ensures ∙ ap (λ l. longest (map pattern_of l)) c.deref.ensures.value)
    (c.longest_key-longest.ensures ∙ ap (λ l. longest (map pattern_of l)) c.deref-2.ensures.value)
    c.requires (c.in_ok-joints.ensures.greatest refl) levels keys in
    record {
      held = ap (λ w. held_in w false) whole ∙ says mins.left mins.right sum;
      kept = subst KeepsLists (sym whole)
          (lists-kept (body ++ before) mins.left mins.right sum (entries_view es mins) says);
      sealed = ap is_sealed c.in_ok-push-2.ensures.items
          ∙ is-sealed first sum (omega (arith, ap length shape, size)) (ap (λ l. slice_index l 0) shape)
          (c.sum_of-sum.ensures ∙ ap sum_of c.deref-3.ensures.value);
    }
