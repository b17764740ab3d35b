-- What a node gives a text is the greatest of what it has for the beginnings of the text; and where
-- its keys are those of entries, this is what they give.
use Rattle.std.proofs.Common.{bytes_eq}
use Rattle.textwrap_patterns.proofs.FirstEntries.{entry_for-none, others-behind}
use Rattle.textwrap_patterns.specs.{Entries.AreSortedFrom, Entries.entry_for, Merging.greatest_number}
use Rattle.textwrap_patterns.specs.Trie.{child_of, level_below, level_from, lists_of, numbers_below, numbers_for}
use Rattle.textwrap_patterns.specs.{Trie.slots_of, declared.entries.TrieEntry.TrieEntry}
use Rattle.textwrap_text.proofs.Common.{ap, ap₂, arith, Bool, cond, eqb, false, get_or, get_or_past, List, max}
use Rattle.textwrap_text.proofs.Common.{nat_eq, None, Option, refl, Some, starts_with, suc, true, unwrap_or, ℕ}
use Rattle.textwrap_text.proofs.Common.{◌≡◌, ◌∙◌, ◌∷◌, []}

-- a number of some numbers, or 0 of none
abbrev pub number_of : Option (List ℕ) → ℕ → ℕ
number_of numbers place = get_or (unwrap_or numbers []) place 0

-- the greatest number at a place of what a function of keys gives the beginnings of a text
abbrev pub greatest_of : List ℕ → (List ℕ → Option (List ℕ)) → ℕ → ℕ
greatest_of [] given place = number_of (given []) place
greatest_of (c ∷ cs) given place =
    max (number_of (given []) place) (greatest_of cs (λ key. given (c ∷ key)) place)

none-at : (place : ℕ) → number_of None place ≡ 0
none-at place = get_or_past {X = ℕ} [] place 0 (omega arith)

pub of-none : (text : List ℕ) (place : ℕ) → greatest_of text (λ key. None) place ≡ 0
of-none [] place = none-at place
of-none (c ∷ cs) place = omega (arith, none-at place, of-none cs place)

-- ---- what a node gives a text

pub levels-of : (text slots lists : List ℕ) (node place : ℕ) (given : List ℕ → Option (List ℕ))
    → ((key : List ℕ) → numbers_below key slots lists node ≡ given key)
    → level_below text slots lists node place ≡ greatest_of text given place
levels-of [] slots lists node place given has = ap (λ o. number_of o place) (has [])
levels-of (c ∷ cs) slots lists node place given has =
    ap₂ max (ap (λ o. number_of o place) (has []))
    (levels-of cs slots lists (child_of slots node c) place (λ key. given (c ∷ key)) (λ key. has (c ∷ key)))

-- ---- what entries give a text

-- a function of keys, with these numbers for one key in place of none
abbrev with : List ℕ → List ℕ → (List ℕ → Option (List ℕ)) → List ℕ → Option (List ℕ)
with key numbers given other = cond (bytes_eq key other) (Some numbers) (given other)

abbrev in_key : List ℕ → List ℕ → List ℕ → ℕ → ℕ
in_key key numbers text place =
    cond (starts_with nat_eq text key) (get_or numbers place 0) 0

one-behind : (k : ℕ) (key : List ℕ) (c : ℕ) (cs numbers : List ℕ) (place : ℕ)
    (given : List ℕ → Option (List ℕ)) → given (k ∷ key) ≡ None
    → ((next : List ℕ → Option (List ℕ)) → next key ≡ None
    → greatest_of cs (with key numbers next) place
    ≡ max (in_key key numbers cs place) (greatest_of cs next place))
    → (b : Bool) → eqb k c ≡ b
    → greatest_of cs (λ other. with (k ∷ key) numbers given (c ∷ other)) place
    ≡ max (in_key (k ∷ key) numbers (c ∷ cs) place)
    (greatest_of cs (λ other. given (c ∷ other)) place)
one-behind k key c cs numbers place given none behind true is = grind arith
one-behind k key c cs numbers place given none behind false is = grind arith

pub of-one_more : (text key numbers : List ℕ) (place : ℕ) (given : List ℕ → Option (List ℕ))
    → given key ≡ None
    → greatest_of text (with key numbers given) place
    ≡ max (in_key key numbers text place) (greatest_of text given place)
of-one_more [] [] numbers place given none = grind arith
of-one_more [] (k ∷ key) numbers place given none = omega arith
of-one_more (c ∷ cs) [] numbers place given none = grind arith
of-one_more (c ∷ cs) (k ∷ key) numbers place given none =
    let next = one-behind k key c cs numbers place given none
    (of-one_more cs key numbers place) (eqb k c) refl in
    omega (arith, next)

pub of-entries : {A : Type 0} (text : List ℕ) (place : ℕ) (es : List (TrieEntry A)) → AreSortedFrom 0 es
    → greatest_of text (entry_for 0 es) place ≡ greatest_number es text place
of-entries text place [] sorted = of-none text place
of-entries text place (e ∷ es) sorted =
    let none = entry_for-none e.key.items es (others-behind e es sorted) in
    let more = of-one_more text e.key.items e.numbers.items place (entry_for 0 es) none in
    let rest = of-entries text place es (λ i j d below within. sorted (suc i) (suc j) d
    (omega (arith, below)) (omega (arith, within))) in
    omega (arith, more, rest)

pub levels-entries : {A : Type 0} (text words : List ℕ) (root place : ℕ) (es : List (TrieEntry A))
    → AreSortedFrom 0 es
    → ((key : List ℕ) → numbers_for key words root ≡ entry_for 0 es key)
    → level_from text words root place ≡ greatest_number es text place
levels-entries text words root place es sorted has =
    levels-of text (slots_of words root) (lists_of words root) (get_or words root 0) place (entry_for 0 es) has
    ∙ of-entries text place es sorted
