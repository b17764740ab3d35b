-- What is left in the slots of a trie where a node is put among them.
use Rattle.std.proofs.{Common.◌%◌, lemmas.List.Elements.All-push}
use Rattle.textwrap_patterns.specs.Trie.{child_at, child_in, empty_slot, kind_of, place_of, slot_at}
use Rattle.textwrap_patterns.specs.Writing.{AreFree, child_for, HaveParents, IsKind, IsLater, IsNodeOf, slot_for}
use Rattle.textwrap_patterns.specs.declared.slots.Child.{Child}
use Rattle.textwrap_text.proofs.Common.{[], All, All-head, All-tail, ap, arith, Bool, cases_eq, cond, eq-eqb, eqb}
use Rattle.textwrap_text.proofs.Common.{eqb-true, false, get_or, length, List, ne_eqb, None, Option, refl, Some}
use Rattle.textwrap_text.proofs.Common.{suc, sym, take, take_more, true, ℕ, ⊎_elim, ◌*◌, ◌++◌, ◌+◌, ◌<◌, ◌∙◌, ◌∷◌}
use Rattle.textwrap_text.proofs.Common.{◌≡◌, ◌≢◌, nat_lt}

abbrev pub AreCodes : List Child → Type 0
AreCodes children = All (λ c. c.letter < 0x110000) children

-- ---- what a slot holds

pub empty-none : (letter : ℕ) → child_in empty_slot letter ≡ empty_slot
empty-none letter = always (eqb 0x1FFFFF (suc letter))
  where
    always : (b : Bool) → cond b empty_slot empty_slot ≡ empty_slot
    always true = refl
    always false = refl

own-none : (list letter : ℕ) → child_in (list * 0x800000) letter ≡ empty_slot
own-none list letter =
    let code : eqb ((list * 0x800000) % 0x200000) (suc letter) ≡ false = ne_eqb _ _ (omega arith) in
    ap (λ b. cond b (list * 0x800000) empty_slot) code

held : (node letter : ℕ) → letter < 0x110000
    → child_in (node * 0x200000 + suc letter) letter ≡ node * 0x200000 + suc letter
held node letter small =
    let code : eqb ((node * 0x200000 + suc letter) % 0x200000) (suc letter) ≡ true =
    eq-eqb _ _ (omega (arith, small)) in
    ap (λ b. cond b (node * 0x200000 + suc letter) empty_slot) code

not-held : (node letter other : ℕ) → letter < 0x110000 → letter ≢ other
    → child_in (node * 0x200000 + suc letter) other ≡ empty_slot
not-held node letter other small differs =
    let code : eqb ((node * 0x200000 + suc letter) % 0x200000) (suc other) ≡ false =
    ne_eqb _ _ (λ same. differs (omega (arith, small, same))) in
    ap (λ b. cond b (node * 0x200000 + suc letter) empty_slot) code

-- ---- what children leave

take_more_at : (children : List Child) (i : ℕ) (child : Child) → i < length children
    → child ≡ get_or children i child → take (i + 1) children ≡ take i children ++ child ∷ []
take_more_at children i child within is = grind (arith, take_more children i child within)

-- a slot that is none of theirs is as it was
pub kept-slot : (children : List Child) (place at other : ℕ)
    → All (λ c. at ≢ place + suc c.letter) children → slot_for children place at other ≡ other
kept-slot [] place at other apart = refl
kept-slot (c ∷ cs) place at other apart =
    let Apart = λ (d : Child). at ≢ place + suc d.letter in
    ap (λ b. slot_for cs place at (cond b (c.node * 0x200000 + suc c.letter) other))
    (ne_eqb at (place + suc c.letter) (All-head Apart c cs apart))
    ∙ kept-slot cs place at other (All-tail Apart c cs apart)

-- one child more
slot_for-more : (children : List Child) (last : Child) (place at other : ℕ)
    → slot_for (children ++ last ∷ []) place at other
    ≡ cond (eqb at (place + suc last.letter)) (last.node * 0x200000 + suc last.letter)
    (slot_for children place at other)
slot_for-more [] last place at other = refl
slot_for-more (c ∷ cs) last place at other = slot_for-more cs last place at _

pub put-more : (children : List Child) (i place code slot : ℕ) (child : Child) (before after first : ℕ → ℕ)
    → i < length children → child ≡ get_or children i child → code ≡ suc child.letter
    → slot ≡ child.node * 0x200000 + code
    → ((at : ℕ) → before at ≡ slot_for (take i children) place at (first at))
    → ((at : ℕ) → after at ≡ cond (eqb at (place + code)) slot (before at))
    → (at : ℕ) → after at ≡ slot_for (take (i + 1) children) place at (first at)
put-more children i place code slot child before after first within is coded holds were are at =
    are at
    ∙ ap (λ n. cond (eqb at (place + code)) slot n) (were at)
    ∙ ap (λ n. cond (eqb at (place + code)) n (slot_for (take i children) place at (first at))) holds
    ∙ ap (λ n. cond (eqb at (place + n)) (child.node * 0x200000 + n)
    (slot_for (take i children) place at (first at))) coded
    ∙ sym (slot_for-more (take i children) child place at (first at))
    ∙ ap (λ l. slot_for l place at (first at)) (sym (take_more_at children i child within is))

pub codes-more : (children : List Child) (i : ℕ) (child : Child) → i < length children
    → child ≡ get_or children i child → AreCodes (take i children) → child.letter < 0x110000
    → AreCodes (take (i + 1) children)
codes-more children i child within is are here =
    rw (take_more_at children i child within is)
    (All-push (λ c. c.letter < 0x110000) (take i children) child are here)

-- a node is found by its letter
pub found : (children : List Child) (place letter other : ℕ) → AreCodes children
    → child_in (slot_for children place (place + suc letter) other) letter
    ≡ child_for children letter (child_in other letter)
found [] place letter other small = refl
found (c ∷ cs) place letter other small =
    let Small = λ (d : Child). d.letter < 0x110000 in
    let here = All-head Small c cs small in
    let at = place + suc letter in
    let word = c.node * 0x200000 + suc c.letter in
    let next = λ (b : Bool). found cs place letter (cond b word other) (All-tail Small c cs small) in
    ⊎_elim {C = child_in (slot_for (c ∷ cs) place at other) letter
    ≡ child_for (c ∷ cs) letter (child_in other letter)}
    (λ (same : c.letter ≡ letter).
    ap (λ b. child_in (slot_for cs place at (cond b word other)) letter)
    (eq-eqb at (place + suc c.letter) (omega (arith, same)))
    ∙ next true
    ∙ ap (child_for cs letter) (ap (λ l. child_in word l) (sym same) ∙ held c.node c.letter here)
    ∙ ap (λ b. child_for cs letter (cond b word (child_in other letter)))
    (sym (eq-eqb c.letter letter same)))
    (λ (differs : c.letter ≢ letter).
    ap (λ b. child_in (slot_for cs place at (cond b word other)) letter)
    (ne_eqb at (place + suc c.letter) (λ same. differs (omega (arith, same))))
    ∙ next false
    ∙ ap (λ b. child_for cs letter (cond b word (child_in other letter)))
    (sym (ne_eqb c.letter letter differs)))
    (cases_eq c.letter letter)

-- the children of a node at another place are as they were
pub other-node : (children : List Child) (place base letter other : ℕ) → base ≢ place
    → AreCodes children
    → All (λ c. base + suc letter ≡ place + suc c.letter → child_in other letter ≡ empty_slot) children
    → child_in (slot_for children place (base + suc letter) other) letter ≡ child_in other letter
other-node [] place base letter other differs small free = refl
other-node (c ∷ cs) place base letter other differs small free =
    let Small = λ (d : Child). d.letter < 0x110000 in
    let Free = λ (d : Child). base + suc letter ≡ place + suc d.letter → child_in other letter ≡ empty_slot in
    let here = step (eqb (base + suc letter) (place + suc c.letter)) refl
    (All-head Small c cs small) (All-head Free c cs free) in
    other-node cs place base letter _ differs (All-tail Small c cs small)
    (λ k d within at. here ∙ All-tail Free c cs free k d within at)
    ∙ here
  where
    step : (b : Bool) → eqb (base + suc letter) (place + suc c.letter) ≡ b → c.letter < 0x110000
        → (base + suc letter ≡ place + suc c.letter → child_in other letter ≡ empty_slot)
        → child_in (cond b (c.node * 0x200000 + suc c.letter) other) letter ≡ child_in other letter
    step true is here none =
        let same = eqb-true _ _ is in
        not-held c.node c.letter letter here (λ e. differs (omega (arith, same, e)))
        ∙ sym (none same)
    step false is here none = refl

-- ---- later slots

pub later-same : (slots : List ℕ) → IsLater slots slots
later-same slots = record { kept = λ place some. refl; children = λ place letter some. refl }

pub later-later : (one two three : List ℕ) → IsLater one two → IsLater two three → IsLater one three
later-later one two three first second = record {
  kept = λ place some.
      let same = first.kept place some in
      second.kept place (λ none. some (sym same ∙ none)) ∙ same;
  children = λ place letter some.
      let same = first.kept place some in
      second.children place letter (λ none. some (sym same ∙ none)) ∙ first.children place letter some;
}

-- ---- a node that is put

-- the place of the list of a node of a kind
abbrev list_by : ℕ → List ℕ → ℕ → Option ℕ
list_by kind slots slot =
    cond (eqb kind 1) (Some (place_of (slot_at slots (place_of slot))))
    (cond (eqb kind 2) (Some (place_of slot)) None)

module _ (old new : List ℕ) (place list : ℕ) (children : List Child) (parents : HaveParents old)
    (free : AreFree old place children) (small : AreCodes children)
    (put : (at : ℕ) → slot_at new at
    ≡ slot_for children place at (cond (eqb at place) (list * 0x800000) (slot_at old at))) where
  own-slot : slot_at new place ≡ list * 0x800000
  own-slot = put place
      ∙ kept-slot children place place _ (λ k c within same. omega (arith, same))
      ∙ ap (λ b. cond b (list * 0x800000) (slot_at old place)) (eq-eqb place place refl)

  own-some : slot_at new place ≢ empty_slot
  own-some none = let same = sym own-slot ∙ none in omega (arith, same)

  others : (base letter : ℕ) → base ≢ place → child_at new base letter ≡ child_at old base letter
  others base letter differs =
      let at = base + suc letter in
      ap (λ s. child_in s letter) (put at)
      ∙ other-node children place base letter _ differs small (λ k c within is.
      ap (λ b. child_in (cond b (list * 0x800000) (slot_at old at)) letter)
      (ne_eqb at place (λ same. omega (arith, is, same)))
      ∙ ap (λ a. child_in (slot_at old a) letter) is
      ∙ ap (λ s. child_in s letter) (free.others k c within) ∙ empty-none letter)
      ∙ ⊎_elim
      {C = child_in (cond (eqb at place) (list * 0x800000) (slot_at old at)) letter
      ≡ child_in (slot_at old at) letter}
      (λ (same : at ≡ place).
      ap (λ b. child_in (cond b (list * 0x800000) (slot_at old at)) letter) (eq-eqb at place same)
      ∙ own-none list letter ∙ sym (empty-none letter)
      ∙ ap (λ s. child_in s letter) (sym free.own) ∙ ap (λ a. child_in (slot_at old a) letter) (sym same))
      (λ (apart : at ≢ place).
      ap (λ b. child_in (cond b (list * 0x800000) (slot_at old at)) letter) (ne_eqb at place apart))
      (cases_eq at place)

  not-here : (at : ℕ) → slot_at old at ≢ empty_slot → at ≢ place
  not-here at some same = some (ap (slot_at old) same ∙ free.own)

  kept-other : (at : ℕ) → slot_at old at ≢ empty_slot → slot_at new at ≡ slot_at old at
  kept-other at some =
      put at
      ∙ kept-slot children place at _ (λ k c within same. some (ap (slot_at old) same ∙ free.others k c within))
      ∙ ap (λ b. cond b (list * 0x800000) (slot_at old at)) (ne_eqb at place (not-here at some))

  was-empty : (at : ℕ) → slot_at new at ≡ empty_slot → slot_at old at ≡ empty_slot
  was-empty at none = ⊎_elim {C = slot_at old at ≡ empty_slot} (λ (is : slot_at old at ≡ empty_slot). is)
      (λ (some : slot_at old at ≢ empty_slot). absurd (some (sym (kept-other at some) ∙ none)))
      (cases_eq (slot_at old at) empty_slot)

  put-parents : HaveParents new
  put-parents at letter none =
      others at letter (λ same. own-some (ap (slot_at new) (sym same) ∙ none))
      ∙ parents at letter (was-empty at none)

  put-later : IsLater old new
  put-later = record {
    kept = kept-other;
    children = λ at letter some. others at letter (not-here at some);
  }

  put-children : (letter : ℕ) → child_at new place letter ≡ child_for children letter empty_slot
  put-children letter =
      let at = place + suc letter in
      ap (λ s. child_in s letter) (put at)
      ∙ found children place letter _ small
      ∙ ap (child_for children letter)
      (ap (λ b. child_in (cond b (list * 0x800000) (slot_at old at)) letter)
      (ne_eqb at place (λ same. omega (arith, same)))
      ∙ parents place letter free.own)

  pub put-node : (numbers : Option ℕ) (kind node : ℕ) → node ≡ place * 4 + kind
      → IsKind numbers list kind → IsNodeOf numbers children old new node
  put-node None kind node is has = record {
    parents = put-parents;
    later = put-later;
    list = λ after later code small.
        let slot = node * 0x200000 + code in
        let is_kind : kind_of slot ≡ 0 = omega (arith, is, has, small) in
        ap (λ n. list_by n after slot) is_kind;
    child = λ after letter later code small.
        let slot = node * 0x200000 + code in
        let is_kind : kind_of slot ≡ 0 = omega (arith, is, has, small) in
        ap (λ n. cond (nat_lt n 2) (child_at after (place_of slot) letter) empty_slot) is_kind
        ∙ ap (λ p. child_at after p letter) (omega (arith, is, has, small))
        ∙ later.children place letter own-some ∙ put-children letter;
  }
  put-node (Some n) kind node is has = record {
    parents = put-parents;
    later = put-later;
    list = λ after later code small.
        let slot = node * 0x200000 + code in
        let is_kind : kind_of slot ≡ 1 = omega (arith, is, has.0, small) in
        ap (λ n. list_by n after slot) is_kind
        ∙ ap (λ p. Some (place_of (slot_at after p))) (omega (arith, is, has.0, small))
        ∙ ap (λ s. Some (place_of s)) (later.kept place own-some ∙ own-slot)
        ∙ ap Some (omega (arith, has.1));
    child = λ after letter later code small.
        let slot = node * 0x200000 + code in
        let is_kind : kind_of slot ≡ 1 = omega (arith, is, has.0, small) in
        ap (λ n. cond (nat_lt n 2) (child_at after (place_of slot) letter) empty_slot) is_kind
        ∙ ap (λ p. child_at after p letter) (omega (arith, is, has.0, small))
        ∙ later.children place letter own-some ∙ put-children letter;
  }

pub no-parents : HaveParents []
no-parents = λ place letter none. empty-none letter
