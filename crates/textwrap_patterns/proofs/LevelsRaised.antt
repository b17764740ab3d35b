-- Levels that are raised letter by letter.
use Rattle.textwrap_text.proofs.Common.{ap, arith, Bool, cond, drop, false, drop_more, get_or, get_or_past, length, List}
use Rattle.textwrap_text.proofs.Common.{max, refl, sym, true, ℕ, ◌+◌, ◌<◌, ◌∙◌, ◌∷◌, ◌≡◌, []}
use Rattle.std.specs.Prelude.{nat_lt, None}
use Rattle.textwrap_patterns.specs.Trie.{child_at, child_of, empty_slot, kind_of, level_at, place_of, level_below, numbers_below}

-- the levels from a letter on are those of the node and those from the next letter on
pub level-next : (text slots lists : List ℕ) (node place i letter child : ℕ) → i < length text
    → letter ≡ get_or text i letter → child ≡ child_of slots node letter
    → level_below (drop i text) slots lists node place
    ≡ max (level_at slots lists node place) (level_below (drop (i + 1) text) slots lists child place)
level-next text slots lists node place i letter child within is to =
    ap (λ t. level_below t slots lists node place) (drop_more text i letter within
    ∙ ap (λ l. l ∷ drop (i + 1) text) (sym is))
    ∙ ap (λ n. max (level_at slots lists node place) (level_below (drop (i + 1) text) slots lists n place))
    (sym to)

-- below an empty slot there are none
pub level-none : (text slots lists : List ℕ) (place : ℕ) → level_below text slots lists empty_slot place ≡ 0
level-none [] slots lists place = get_or_past {X = ℕ} [] place 0 (omega arith)
level-none (c ∷ cs) slots lists place =
    let here = get_or_past {X = ℕ} [] place 0 (omega arith) in
    omega (arith, here, level-none cs slots lists place)

-- and no key has numbers
pub numbers-none : (key slots lists : List ℕ) → numbers_below key slots lists empty_slot ≡ None
numbers-none [] slots lists = refl
numbers-none (c ∷ cs) slots lists = numbers-none cs slots lists

-- the levels from a letter on of a node without children, and of one without a child for the letter
pub level-last : (text slots lists : List ℕ) (node place i letter : ℕ) → i < length text
    → letter ≡ get_or text i letter → child_of slots node letter ≡ empty_slot
    → level_below (drop i text) slots lists node place ≡ level_at slots lists node place
level-last text slots lists node place i letter within is none =
    let next = level-next text slots lists node place i letter (child_of slots node letter) within is refl in
    let rest = ap (λ n. level_below (drop (i + 1) text) slots lists n place) none
    ∙ level-none (drop (i + 1) text) slots lists place in
    omega (arith, next, rest)

-- the child of a node with children
pub child-inner : (slots : List ℕ) (node letter : ℕ) (inner : Bool) → inner ≡ nat_lt (kind_of node) 2
    → inner ≡ true → child_of slots node letter ≡ child_at slots (place_of node) letter
child-inner slots node letter inner is true_here =
    ap (λ b. cond b (child_at slots (place_of node) letter) empty_slot) (sym is ∙ true_here)

pub child-leaf : (slots : List ℕ) (node letter : ℕ) (inner : Bool) → inner ≡ nat_lt (kind_of node) 2
    → inner ≡ false → child_of slots node letter ≡ empty_slot
child-leaf slots node letter inner is false_here =
    ap (λ b. cond b (child_at slots (place_of node) letter) empty_slot) (sym is ∙ false_here)
