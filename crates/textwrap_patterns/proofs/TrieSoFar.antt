-- A trie of which the first children are written.
use Rattle.std.proofs.lemmas.List.Elements.{All-push}
use Rattle.textwrap_patterns.proofs.Keys.{entry_for-all_ended, entry_for-append, entry_for-group}
use Rattle.textwrap_patterns.proofs.Keys.{entry_for-other, first_of_two, letters-rise, sorted-group}
use Rattle.textwrap_patterns.proofs.Keys.{sorted-right, sorted-take}
use Rattle.textwrap_patterns.proofs.PutNodes.{later-later, later-same}
use Rattle.textwrap_patterns.specs.Entries.{AreSortedFrom, entry_for, IsGroupOf, letter_at}
use Rattle.textwrap_patterns.specs.Trie.{empty_slot, numbers_at, numbers_below}
use Rattle.textwrap_patterns.specs.Writing.{child_for, HaveParents, IsLater, IsListOf, IsNodeOf, IsTrie}
use Rattle.textwrap_patterns.specs.declared.{entries.TrieEntry.TrieEntry, slots.Child.Child}
use Rattle.textwrap_text.proofs.Common.{[], All, All-drop, All-head, All-tail, All-take, ap, append-nil}
use Rattle.textwrap_text.proofs.Common.{append_assoc, arith, cases_eq, cond, drop, eq-eqb, eqb, get_or}
use Rattle.textwrap_text.proofs.Common.{get_or-drop, get_or_default, length, length-drop, List, ne_eqb}
use Rattle.textwrap_text.proofs.Common.{None, Option, refl, Some, subst, suc, sym, take, take-append-drop}
use Rattle.textwrap_text.proofs.Common.{ℕ, ⊎_elim, ◌*◌, ◌++◌, ◌+◌, ◌-◌, ◌<◌, ◌∙◌, ◌∷◌, ◌≡◌, ◌≢◌, ◌≤◌}
use Rattle.textwrap_text.proofs.{Common.option_map, Lists.Parts.all-right}

-- below an empty slot there are no numbers
pub below-none : (key slots lists : List ℕ) → numbers_below key slots lists empty_slot ≡ None
below-none [] slots lists = refl
below-none (c ∷ cs) slots lists = below-none cs slots lists

-- the entries but those that are left are written, and the letters of the children are below those
-- that are left
pub record HasWritten {A : Type 0} (depth : ℕ) (numbers : Option ℕ) (entries left : List (TrieEntry A))
    (children : List Child) (old_slots slots old_lists lists : List ℕ) : Type 0 where
  pub done : List (TrieEntry A)
  pub split : entries ≡ done ++ left
  pub longer : All (λ e. depth < length e.key.items) left
  pub parents : HaveParents slots
  pub later : IsLater old_slots slots
  pub added : List ℕ
  pub grown : lists ≡ old_lists ++ added
  pub list : (more : List ℕ)
      → option_map (numbers_at (lists ++ more)) numbers ≡ entry_for depth entries []
  pub below : (after more : List ℕ) (letter : ℕ) (key : List ℕ) → IsLater slots after
      → numbers_below key after (lists ++ more) (child_for children letter empty_slot)
      ≡ entry_for depth done (letter ∷ key)
  pub fresh : (d : TrieEntry A) → 0 < length left
      → All (λ child. child.letter < letter_at depth (get_or left 0 d)) children

-- ---- the children with a letter

child_for-other : (children : List Child) (letter other : ℕ)
    → All (λ child. child.letter ≢ letter) children → child_for children letter other ≡ other
child_for-other [] letter other differ = refl
child_for-other (child ∷ children) letter other differ =
    let differs = λ (c : Child). c.letter ≢ letter in
    ap (λ b. child_for children letter (cond b (child.node * 0x200000 + suc child.letter) other))
    (ne_eqb child.letter letter (All-head differs child children differ))
    ∙ child_for-other children letter other (All-tail differs child children differ)

child_for-more : (children : List Child) (last : Child) (letter other : ℕ)
    → child_for (children ++ last ∷ []) letter other
    ≡ cond (eqb last.letter letter) (last.node * 0x200000 + suc last.letter)
    (child_for children letter other)
child_for-more [] last letter other = refl
child_for-more (child ∷ children) last letter other = child_for-more children last letter _

-- ---- the beginning

pub written-start : {A : Type 0} (depth : ℕ) (numbers : Option ℕ) (ended : ℕ) (entries : List (TrieEntry A))
    (slots old new : List ℕ) → HaveParents slots
    → IsListOf (entry_for depth entries []) old new numbers
    → All (λ e. length e.key.items ≤ depth) (take ended entries)
    → All (λ e. depth < length e.key.items) (drop ended entries)
    → HasWritten depth numbers entries (drop ended entries) [] slots slots old new
written-start depth numbers ended entries slots old new parents is_list ends longer = record {
  done = take ended entries;
  split = sym (take-append-drop ended entries);
  longer = longer;
  parents = parents;
  later = later-same slots;
  added = is_list.added;
  grown = is_list.grown;
  list = is_list.list;
  below = λ after more letter key later.
      below-none key after (new ++ more)
      ∙ sym (entry_for-all_ended depth (take ended entries) letter key ends);
  fresh = λ d some. λ k c within. absurd (omega (arith, within));
}

-- ---- one more child

first-alone : (first other : Option (List ℕ)) → other ≡ None → first_of_two first other ≡ first
first-alone None other none = none
first-alone (Some numbers) other none = refl

module _ {A : Type 0} (depth : ℕ) (numbers : Option ℕ) (len letter : ℕ) (entries left : List (TrieEntry A))
    (children : List Child) (old_slots slots old_lists lists : List ℕ) (entry : TrieEntry A)
    (sorted : AreSortedFrom depth entries) (group : IsGroupOf depth left len)
    (so_far : HasWritten depth numbers entries left children old_slots slots old_lists lists)
    (first : letter ≡ letter_at depth (get_or left 0 entry)) where
  left-sorted : AreSortedFrom depth left
  left-sorted = sorted-right depth so_far.done left
      (subst (AreSortedFrom depth) so_far.split sorted)

  group-longer : All (λ e. depth < length e.key.items) (take len left)
  group-longer = All-take (λ e. depth < length e.key.items) len left so_far.longer

  group-same : All (λ e. letter_at depth e ≡ letter) (take len left)
  group-same = λ k d within. group.same entry k d within ∙ sym first

  pub group-sorted : AreSortedFrom (depth + 1) (take len left)
  group-sorted = sorted-group depth letter (take len left)
      (sorted-take depth len left left-sorted) group-longer group-same

  letters-below : All (λ child. child.letter < letter) children
  letters-below = λ k d within.
      let some : 0 < length left = omega (arith, group.some, group.within) in
      let below = so_far.fresh entry some k d within in omega (arith, below, first)

  other-letters : All (λ child. child.letter ≢ letter) children
  other-letters = λ k d within same.
      let below = letters-below k d within in omega (arith, below, same)

  not_before : (key : List ℕ) → None ≡ entry_for depth so_far.done (letter ∷ key)
  not_before key =
      sym (below-none key slots (lists ++ []))
      ∙ ap (numbers_below key slots (lists ++ [])) (sym (child_for-other children letter empty_slot other-letters))
      ∙ so_far.below slots [] letter key (later-same slots)

  letter-above : (d : TrieEntry A) → 0 < length (drop len left)
      → letter < letter_at depth (get_or (drop len left) 0 d)
  letter-above d some = grind (arith, length-drop, get_or-drop, letters-rise, left-sorted)

  module _ (node : ℕ) (next_slots next_lists added : List ℕ) (parents : HaveParents next_slots)
      (coded : letter < 0x110000) (later : IsLater slots next_slots) (grown : next_lists ≡ lists ++ added)
      (trie : IsTrie (depth + 1) (take len left) next_slots next_lists node) where
    carried : (more : List ℕ) → next_lists ++ more ≡ lists ++ (added ++ more)
    carried more = ap (λ w. w ++ more) grown ∙ append_assoc lists added more

    abbrev child : Child
    child = record { letter = letter; node = node }

    below-letter : (after more key : List ℕ) → IsLater next_slots after
        → numbers_below key after (next_lists ++ more) (child_for (children ++ child ∷ []) letter empty_slot)
        ≡ entry_for depth (so_far.done ++ take len left) (letter ∷ key)
    below-letter after more key is_later =
        ap (numbers_below key after (next_lists ++ more)) (child_for-more children child letter empty_slot
        ∙ ap (λ b. cond b (node * 0x200000 + suc letter) (child_for children letter empty_slot)) (eq-eqb letter letter refl))
        ∙ trie after more key is_later (suc letter) (omega (arith, coded))
        ∙ sym (entry_for-group depth letter (take len left) key group-longer group-same)
        ∙ ap (λ o. first_of_two o (entry_for depth (take len left) (letter ∷ key)))
        (not_before key)
        ∙ sym (entry_for-append depth so_far.done (take len left) (letter ∷ key))

    below-other : (after more key : List ℕ) (other : ℕ) → IsLater next_slots after → letter ≢ other
        → numbers_below key after (next_lists ++ more) (child_for (children ++ child ∷ []) other empty_slot)
        ≡ entry_for depth (so_far.done ++ take len left) (other ∷ key)
    below-other after more key other is_later differs =
        ap (numbers_below key after (next_lists ++ more)) (child_for-more children child other empty_slot
        ∙ ap (λ b. cond b (node * 0x200000 + suc letter) (child_for children other empty_slot)) (ne_eqb letter other differs))
        ∙ ap (λ w. numbers_below key after w (child_for children other empty_slot)) (carried more)
        ∙ so_far.below after (added ++ more) other key (later-later slots next_slots after later is_later)
        ∙ sym (first-alone (entry_for depth so_far.done (other ∷ key)) _
        (entry_for-other depth letter other (take len left) key group-longer group-same differs))
        ∙ sym (entry_for-append depth so_far.done (take len left) (other ∷ key))

    pub written-next : HasWritten depth numbers entries (drop len left) (children ++ child ∷ [])
        old_slots next_slots old_lists next_lists
    written-next = record {
      done = so_far.done ++ take len left;
      split = so_far.split
          ∙ ap (λ l. so_far.done ++ l) (sym (take-append-drop len left))
          ∙ sym (append_assoc so_far.done (take len left) (drop len left));
      longer = All-drop (λ e. depth < length e.key.items) len left so_far.longer;
      parents = parents;
      later = later-later old_slots slots next_slots so_far.later later;
      added = so_far.added ++ added;
      grown = grown ∙ ap (λ w. w ++ added) so_far.grown
          ∙ append_assoc old_lists so_far.added added;
      list = λ more.
          ap (λ w. option_map (numbers_at w) numbers) (carried more) ∙ so_far.list (added ++ more);
      below = λ after more other key is_later.
          ⊎_elim
          {C = numbers_below key after (next_lists ++ more) (child_for (children ++ child ∷ []) other empty_slot)
          ≡ entry_for depth (so_far.done ++ take len left) (other ∷ key)}
          (λ (same : letter ≡ other). subst (λ (l : ℕ).
          numbers_below key after (next_lists ++ more) (child_for (children ++ child ∷ []) l empty_slot)
          ≡ entry_for depth (so_far.done ++ take len left) (l ∷ key)) same
          (below-letter after more key is_later))
          (λ (differs : letter ≢ other). below-other after more key other is_later differs)
          (cases_eq letter other);
      fresh = λ d some.
          let above = letter-above d some in
          let rest : 0 < length left = omega (arith, group.some, group.within) in
          All-push (λ c. c.letter < letter_at depth (get_or (drop len left) 0 d)) children child
          (λ k c within. let low = so_far.fresh entry rest k c within in
          omega (arith, above, low, first)) above;
    }

-- ---- what is left

-- the letter that is read is that of the first entry
pub letter-first : {A : Type 0} (depth letter : ℕ) (left : List (TrieEntry A)) (entry : TrieEntry A) (key : List ℕ)
    → 0 < length left → All (λ e. depth < length e.key.items) left
    → key ≡ (get_or left 0 entry).key.items → letter ≡ get_or key depth letter
    → letter ≡ letter_at depth (get_or left 0 entry)
letter-first depth letter left entry key some longer of read = grind (arith, get_or_default)

-- the entries that are left are no longer than all are, and have letters there
pub left-height : {A : Type 0} (depth : ℕ) (numbers : Option ℕ) (height : ℕ) (entries left : List (TrieEntry A))
    (children : List Child) (old_slots slots old_lists lists : List ℕ) (entry : TrieEntry A) → 0 < length left
    → All (λ e. length e.key.items ≤ depth + height) entries
    → HasWritten depth numbers entries left children old_slots slots old_lists lists
    → (0 < height) × All (λ e. length e.key.items ≤ (depth + 1) + (height - 1)) left
left-height depth numbers height entries left children old_slots slots old_lists lists entry some within so_far = grind (
  arith,
  all-right (λ e. length e.key.items ≤ depth + height) so_far.done left (subst (All (λ e. length
      e.key.items ≤ depth + height)) so_far.split within),
)

-- ---- the end

pub written-end : {A : Type 0} (depth : ℕ) (numbers : Option ℕ) (node : ℕ) (entries : List (TrieEntry A))
    (children : List Child) (old_slots slots new_slots old_lists lists : List ℕ)
    → HasWritten depth numbers entries [] children old_slots slots old_lists lists
    → IsLater slots new_slots → IsNodeOf numbers children slots new_slots node
    → IsTrie depth entries new_slots lists node
written-end depth numbers node entries children old_slots slots new_slots old_lists lists so_far later is_node = by
  where
    by : IsTrie depth entries new_slots lists node
    by after more [] is_later code small =
        ap (option_map (numbers_at (lists ++ more))) (is_node.list after is_later code small) ∙ so_far.list more
    by after more (c ∷ cs) is_later code small =
        ap (numbers_below cs after (lists ++ more)) (is_node.child after c is_later code small)
        ∙ so_far.below after more c cs (later-later slots new_slots after later is_later)
        ∙ ap (λ es. entry_for depth es (c ∷ cs)) (sym (append-nil so_far.done) ∙ sym so_far.split)
