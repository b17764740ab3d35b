-- What stands in a list of numbers once it is written.
use Rattle.std.proofs.Common.{[], ap, append-nil, append_assoc, arith, drop, get_or, length}
use Rattle.std.proofs.Common.{length-append, List, None, refl, sym, ℕ, ◌*◌, ◌++◌, ◌+◌, ◌∙◌, ◌∷◌}
use Rattle.std.proofs.{Common.◌≡◌, lemmas.List.get_or_at}
use Rattle.textwrap_patterns.proofs.ListsWithin.{numbers_at-written, rest-written}
use Rattle.textwrap_patterns.{proofs.PutNodes.later-same, specs.Entries.entry_for}
use Rattle.textwrap_patterns.specs.Trie.{lists_of, numbers_at, numbers_below, numbers_for}
use Rattle.textwrap_patterns.specs.Writing.{IsList, IsListOf, IsTrie, HoldsTrie}
use Rattle.textwrap_patterns.specs.declared.entries.TrieEntry.{TrieEntry}

pub list-none : (old : List ℕ) → IsListOf None old old None
list-none old = record { added = []; grown = sym (append-nil old); list = λ more. refl }

-- a list that is written behind its length is found there
pub list-written : (numbers old new : List ℕ) (place : ℕ) → place ≡ length old
    → new ≡ old ++ length numbers ∷ numbers → IsList numbers old new place
list-written numbers old new place at grown = record {
  added = length numbers ∷ numbers;
  grown = grown;
  list = λ more. ap (λ w. numbers_at (w ++ more) place) grown
      ∙ ap (numbers_at ((old ++ length numbers ∷ numbers) ++ more)) at
      ∙ numbers_at-written old numbers more;
}

-- ---- a whole trie

pub whole-written : (node root : ℕ) (slots lists old pushed sloted new : List ℕ) → root ≡ length old
    → pushed ≡ old ++ node ∷ [] → sloted ≡ pushed ++ length slots ∷ slots → new ≡ sloted ++ lists
    → HoldsTrie node slots lists old new root
whole-written node root slots lists old pushed sloted new at first second third = record {
  added = node ∷ ((length slots ∷ slots) ++ lists);
  grown = third ∙ ap (λ w. w ++ lists) second ∙ append_assoc pushed (length slots ∷ slots) lists
      ∙ ap (λ w. w ++ ((length slots ∷ slots) ++ lists)) first
      ∙ append_assoc old (node ∷ []) ((length slots ∷ slots) ++ lists);
  root_is = λ more. ap (λ w. get_or w root 0) (front more) ∙ get_or_at old node (rest more) 0 root (sym at);
  slots_are = λ more. slots-are more;
  lists_are = λ more.
      ap (λ l. drop (root + 2 + length l) (new ++ more)) (slots-are more)
      ∙ ap (drop (root + 2 + length slots)) (behind more)
      ∙ rest-written pushed slots (lists ++ more) (root + 2 + length slots) (omega (arith, long));
}
  where
    rest : List ℕ → List ℕ
    rest more = (length slots ∷ slots) ++ (lists ++ more)

    behind : (more : List ℕ) → new ++ more ≡ (pushed ++ length slots ∷ slots) ++ (lists ++ more)
    behind more = ap (λ w. w ++ more) (third ∙ ap (λ w. w ++ lists) second)
        ∙ append_assoc (pushed ++ length slots ∷ slots) lists more

    front : (more : List ℕ) → new ++ more ≡ old ++ node ∷ rest more
    front more = behind more ∙ append_assoc pushed (length slots ∷ slots) (lists ++ more)
        ∙ ap (λ w. w ++ rest more) first ∙ append_assoc old (node ∷ []) (rest more)

    long : length pushed ≡ root + 1
    long = omega (arith, at, ap length first, length-append old (node ∷ []))

    slots-are : (more : List ℕ) → numbers_at (new ++ more) (root + 1) ≡ slots
    slots-are more = ap (λ n. numbers_at (new ++ more) n) (sym long)
        ∙ ap (λ w. numbers_at w (length pushed)) (behind more)
        ∙ numbers_at-written pushed slots (lists ++ more)

pub whole-keys : {A : Type 0} (entries : List (TrieEntry A)) (node slot root : ℕ)
    (slots lists written_slots written_lists old new more key : List ℕ)
    → slot ≡ node * 0x200000 + 0 → slots ≡ written_slots → lists ≡ written_lists
    → HoldsTrie slot slots lists old new root
    → IsTrie 0 entries written_slots written_lists node
    → numbers_for key (new ++ more) root ≡ entry_for 0 entries key
whole-keys entries node slot root slots lists written_slots written_lists old new more key is one two whole trie =
    ap (λ s. numbers_below key s (lists_of (new ++ more) root) (get_or (new ++ more) root 0))
    (whole.slots_are more ∙ one)
    ∙ ap (λ l. numbers_below key written_slots l (get_or (new ++ more) root 0))
    (whole.lists_are more ∙ ap (λ l. l ++ more) two)
    ∙ ap (numbers_below key written_slots (written_lists ++ more)) (whole.root_is more ∙ is)
    ∙ trie written_slots more key (later-same written_slots) 0 (omega arith)
