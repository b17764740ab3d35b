-- The numbers of a dictionary say what is listed in it.
use Rattle.std.proofs.Common.{Option, Some, bytes_eq}
use Rattle.std.proofs.lemmas.{List.get_or-append_right, Slice.Eq.bytes_eq-Decides}
use Rattle.textwrap_dictionaries.proofs.Said.{places-are}
use Rattle.textwrap_hyphens.proofs.Common.{All, All-head, All-tail, Bool, List, [], arith, cond, false}
use Rattle.textwrap_hyphens.proofs.Common.{get_or, length, length-append, pattern_level_from, map}
use Rattle.textwrap_hyphens.proofs.Common.{length-map, level_in, nat_eq, refl, rules, starts_with, suc, take}
use Rattle.textwrap_hyphens.proofs.Common.{true, zero, ℕ, ◌++◌, ◌-◌, ◌∷◌, ◌≡◌, ◌≤◌, PatternText}
use Rattle.textwrap_hyphens.specs.Building.{entries_view, exception_of, pattern_of}
use Rattle.textwrap_hyphens.specs.Hyphenation.{Hyphenation, exception_for, hyphenation_by}
use Rattle.textwrap_hyphens.specs.{InnerPlaces.inner_places, Levels.longest, Numbers.levels_if}
use Rattle.textwrap_hyphens.specs.{Seal.from_end, Table.levels_at, Table.held_in}
use Rattle.textwrap_hyphens.specs.declared.building.{Entries.Entries, Minima.Minima}
use Rattle.textwrap_patterns.specs.{Entries.entry_for, Merging.greatest_number, Places.AreInnerPlaces}
use Rattle.textwrap_patterns.specs.declared.entries.TrieEntry.{TrieEntry}
use Rattle.textwrap_patterns.specs.Trie as trie

-- ---- patterns

-- what a text begins with that is no longer than some first letters, these begin with too
begins-first : (m : ℕ) (text key : List ℕ) → length key ≤ m
    → starts_with nat_eq (take m text) key ≡ starts_with nat_eq text key
begins-first m [] [] short = search (rules, arith)
begins-first m (c ∷ cs) [] short = search (rules, arith)
begins-first zero text (k ∷ ks) short = absurd (omega arith)
begins-first (suc m) [] (k ∷ ks) short = refl
begins-first (suc m) (c ∷ cs) (k ∷ ks) short = grind (arith, begins-first m cs ks)

pub patterns-say : {A : Type 0} (m : ℕ) (es : List (TrieEntry A)) (text : List ℕ) (place : ℕ)
    → longest (map pattern_of es) ≤ m
    → greatest_number es (take m text) place ≡ pattern_level_from (map pattern_of es) text place
patterns-say m [] text place short = refl
patterns-say m (e ∷ es) text place short =
    grind (arith, patterns-say m es text place, level_in, begins-first)

-- ---- exceptions

exception-step : {A : Type 0} (e : TrieEntry A) (es : List (TrieEntry A)) (letters : List ℕ) (b : Bool)
    → bytes_eq e.key.items letters ≡ b → AreInnerPlaces (length e.key.items) e.numbers.items
    → inner_places (length letters) (entry_for 0 es letters)
    ≡ exception_for (map exception_of es) letters
    → inner_places (length letters) (cond b (Some e.numbers.items) (entry_for 0 es letters))
    ≡ cond b (Some e.numbers.items) (exception_for (map exception_of es) letters)
exception-step e es letters true is inner rest = grind (arith, bytes_eq-Decides, places-are)
exception-step e es letters false is inner rest = rest

pub exceptions-say : {A : Type 0} (es : List (TrieEntry A)) (letters : List ℕ)
    → All (λ e. AreInnerPlaces (length e.key.items) e.numbers.items) es
    → inner_places (length letters) (entry_for 0 es letters)
    ≡ exception_for (map exception_of es) letters
exceptions-say {A} [] letters inner = refl
exceptions-say {A} (e ∷ es) letters inner =
    let Inner = λ (e : TrieEntry A). AreInnerPlaces (length e.key.items) e.numbers.items in
    exception-step e es letters (bytes_eq e.key.items letters) refl (All-head Inner e es inner)
    (exceptions-say es letters (All-tail Inner e es inner))

-- ---- the numbers at the end

pub from_end-tail : (body tail : List ℕ) (n : ℕ) → n ≤ length tail
    → from_end n (body ++ tail) ≡ get_or tail (length tail - n) 0
from_end-tail body tail n within = grind (arith, length-append, get_or-append_right)

-- ---- together

-- where there are no patterns of joints, their levels are 0
joints-say : (js : List PatternText) (levels : List ℕ → ℕ → ℕ) (text : List ℕ) (place : ℕ)
    → levels text place ≡ pattern_level_from js text place
    → levels_if (length js) levels text place ≡ pattern_level_from js text place
joints-say [] levels text place is = refl
joints-say (j ∷ js) levels text place is = is

abbrev pub said : (List ℕ → ℕ → ℕ) → (List ℕ → ℕ → ℕ) → ℕ → (List ℕ → Option (List ℕ)) → ℕ → ℕ → ℕ → ℕ
    → ℕ → Hyphenation
said j f m p left right compound_left compound_right changed = record {
  joint_from = j;
  level_from = f;
  longest = m;
  exception = p;
  left = left;
  right = right;
  compound_left = compound_left;
  compound_right = compound_right;
  changed = changed;
  in_parts = false;
  soft_hyphens = false;
}

pub same-said : (j k f g : List ℕ → ℕ → ℕ) (m n : ℕ) (p q : List ℕ → Option (List ℕ))
    (a b c d s t u v x y : ℕ) → j ≡ k → f ≡ g → m ≡ n → p ≡ q → a ≡ b → c ≡ d → s ≡ t → u ≡ v → x ≡ y
    → said j f m p a c s u x ≡ said k g n q b d t v y
same-said j k f g m n p q a b c d s t u v x y nought one two three four five six seven eight = grind arith

-- the levels by the trie at a root, behind which other numbers stand
levels-say : {A : Type 0} (words : List ℕ) (root at longest_at longest_key : ℕ) (es : List (TrieEntry A))
    → at ≡ root → longest_at ≡ longest_key → longest_key ≡ longest (map pattern_of es)
    → ((text : List ℕ) (place : ℕ) → trie.level_from text words root place
    ≡ greatest_number es text place)
    → (text : List ℕ) (place : ℕ)
    → levels_at words at longest_at text place ≡ pattern_level_from (map pattern_of es) text place
levels-say words root at longest_at longest_key es here size all levels text place =
    grind (arith, patterns-say)

-- numbers behind which these twelve stand
pub table-says : {A : Type 0} (body : List ℕ) (n jo jm ex pa m sum : ℕ) (es : Entries A) (mins : Minima)
    → n ≡ length es.joints.items → jm ≡ longest (map pattern_of es.joints.items)
    → m ≡ longest (map pattern_of es.patterns.items)
    → All (λ e. AreInnerPlaces (length e.key.items) e.numbers.items) es.exceptions.items
    → ((more text : List ℕ) (place : ℕ) → trie.level_from text (body ++ more) jo place
    ≡ greatest_number es.joints.items text place)
    → ((more text : List ℕ) (place : ℕ) → trie.level_from text (body ++ more) pa place
    ≡ greatest_number es.patterns.items text place)
    → ((more key : List ℕ) → trie.numbers_for key (body ++ more) ex
    ≡ entry_for 0 es.exceptions.items key)
    → held_in (body ++ es.changed ∷ n ∷ jo ∷ jm ∷ mins.compound_left ∷ mins.compound_right ∷ ex ∷ pa ∷ m ∷ mins.left ∷ mins.right ∷ sum ∷ []) false
    ≡ hyphenation_by (entries_view es mins)
table-says body n jo jm ex pa m sum es mins count joint_size size inner joints levels keys =
    grind (arith, length-map, same-said, from_end-tail, joints-say, levels-say, exceptions-say)
