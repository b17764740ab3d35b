-- Numbers of a dictionary in which the minima become others.
use Rattle.std.proofs.Common.{eqb-true, leb-true, take-append-drop, slice_set, get_or-take, Bool, List, []}
use Rattle.std.proofs.Common.{append_assoc, ap, arith, false, length, drop, length-append, length-drop}
use Rattle.std.proofs.Common.{length-take, refl, slice_index, subst, sym, take, true, ℕ, ◌++◌, ◌+◌, ◌-◌}
use Rattle.std.proofs.Common.{◌∙◌, ◌∷◌, ◌≡◌, ◌≤◌}
use Rattle.std.proofs.{Math.Seq.take-append_seam, lemmas.List.set-append_right}
use Rattle.textwrap_hyphens.proofs.{SealLemmas.is-sealed, TableOf.from_end-tail, TableOf.same-said}
use Rattle.textwrap_hyphens.specs.Hyphenation.{Hyphenation, hyphenation_by}
use Rattle.textwrap_hyphens.specs.Numbers.{KeepsLists, ListTheSame, held_in}
use Rattle.textwrap_hyphens.specs.Seal.{is_sealed, sum_of, version, with_minima}
use Rattle.textwrap_patterns.specs.Listed.{Listed}
use Rattle.textwrap_text.proofs.Common.{get_or_append_left, and_parts}

-- sealed numbers are at least thirteen
pub sealed-long : (words : List ℕ) → is_sealed words ≡ true → 13 ≤ length words
sealed-long words is = leb-true 13 (length words) (and_parts _ _ (and_parts _ _ is).0).0

-- the number behind some becomes another
set-behind : (front rest : List ℕ) (a b n : ℕ) → n ≡ length front
    → slice_set (front ++ a ∷ rest) n b ≡ front ++ b ∷ rest
set-behind front rest a b n is =
    set-append_right front (a ∷ rest) (length front) n b refl (omega (arith, is))
    ∙ ap (λ k. front ++ slice_set (a ∷ rest) k b) (let e : n - length front ≡ 0 = omega (arith, is) in e)

pub minima-of : (front : List ℕ) (a b c l r : ℕ)
    → with_minima l r (front ++ a ∷ b ∷ c ∷ [])
    ≡ (front ++ l ∷ r ∷ []) ++ sum_of (front ++ l ∷ r ∷ []) ∷ []
minima-of front a b c l r =
    grind (arith, length-append front (a ∷ b ∷ c ∷ []), take-append_seam front (a ∷ b ∷ c ∷ []))

-- two numbers behind some, which become others one after another
two-set : (front : List ℕ) (a b c l r n : ℕ) → n ≡ length front + 3
    → slice_set (slice_set (front ++ a ∷ b ∷ c ∷ []) (n - 3) l) (n - 2) r
    ≡ (front ++ l ∷ r ∷ []) ++ c ∷ []
two-set front a b c l r n is =
    ap (λ w. slice_set w (n - 2) r)
    (set-behind front (b ∷ c ∷ []) a l (n - 3) (omega (arith, is))
    ∙ sym (append_assoc front (l ∷ []) (b ∷ c ∷ [])))
    ∙ set-behind (front ++ l ∷ []) (c ∷ []) b r (n - 2)
    (omega (arith, is, length-append front (l ∷ [])))
    ∙ append_assoc front (l ∷ []) (r ∷ c ∷ []) ∙ sym (append_assoc front (l ∷ r ∷ []) (c ∷ []))

-- and then the last becomes the sum of those before it
set-split : (front tail : List ℕ) (l r s n : ℕ) → length tail ≡ 3 → n ≡ length front + 3
    → s ≡ sum_of (take (n - 1) (slice_set (slice_set (front ++ tail) (n - 3) l) (n - 2) r))
    → slice_set (slice_set (slice_set (front ++ tail) (n - 3) l) (n - 2) r) (n - 1) s
    ≡ with_minima l r (front ++ tail)
set-split front [] l r s n three is sum = absurd (omega (arith, three))
set-split front (a ∷ []) l r s n three is sum = absurd (omega (arith, three))
set-split front (a ∷ b ∷ []) l r s n three is sum = absurd (omega (arith, three))
set-split front (a ∷ b ∷ c ∷ d ∷ more) l r s n three is sum = absurd (omega (arith, three))
set-split front (a ∷ b ∷ c ∷ []) l r s n three is sum =
    grind (arith, two-set, length-append, take-append_seam, slice_set, set-behind, minima-of)

pub minima-set : (words : List ℕ) (l r s : ℕ) → is_sealed words ≡ true
    → s ≡ sum_of (take (length words - 1)
    (slice_set (slice_set words (length words - 3) l) (length words - 2) r))
    → slice_set (slice_set (slice_set words (length words - 3) l) (length words - 2) r)
    (length words - 1) s
    ≡ with_minima l r words
minima-set words l r s is sum =
    let n = length words in
    let long = sealed-long words is in
    let whole = take-append-drop (n - 3) words in
    subst (λ w. s ≡ sum_of (take (n - 1) (slice_set (slice_set w (n - 3) l) (n - 2) r))
    → slice_set (slice_set (slice_set w (n - 3) l) (n - 2) r) (n - 1) s ≡ with_minima l r w) whole
    (set-split (take (n - 3) words) (drop (n - 3) words) l r s n
    (omega (arith, length-drop (n - 3) words, long))
    (omega (arith, length-take (n - 3) words, long))) sum

-- ---- what stays

-- the sum is right again
pub minima-sealed : (words : List ℕ) (l r : ℕ) → is_sealed words ≡ true
    → is_sealed (with_minima l r words) ≡ true
minima-sealed words l r is =
    let n = length words in
    let long = sealed-long words is in
    let front = take (n - 3) words in
    let before = front ++ l ∷ r ∷ [] in
    let size = length-take (n - 3) words in
    let begins : slice_index words 0 ≡ version =
    eqb-true (slice_index words 0) version (and_parts _ _ (and_parts _ _ is).0).1 in
    is-sealed before (sum_of before) (omega (arith, length-append front (l ∷ r ∷ []), size, long))
    (get_or_append_left front (l ∷ r ∷ []) 0 0 (omega (arith, size, long))
    ∙ get_or-take (n - 3) words 0 0 (omega (arith, long)) ∙ begins) refl

-- two that say what is listed but for the minima list the same
same-lists : (h other : Hyphenation) (d : Listed) (l r a b : ℕ)
    → h ≡ hyphenation_by (record d { left = l; right = r })
    → other ≡ hyphenation_by (record d { left = a; right = b }) → ListTheSame h other
same-lists h other d l r a b one two = grind arith

-- numbers that say what is listed, whatever the last three are
pub lists-kept : (front : List ℕ) (left right sum : ℕ) (d : Listed)
    → ((l r s : ℕ) → held_in (front ++ l ∷ r ∷ s ∷ []) false
    ≡ hyphenation_by (record d { left = l; right = r }))
    → KeepsLists (front ++ left ∷ right ∷ sum ∷ [])
lists-kept front left right sum d says = λ l r.
    let total = sum_of (front ++ l ∷ r ∷ []) in
    let words = front ++ left ∷ right ∷ sum ∷ [] in
    let is : with_minima l r words ≡ front ++ l ∷ r ∷ total ∷ [] =
    minima-of front left right sum l r ∙ append_assoc front (l ∷ r ∷ []) (total ∷ []) in
    same-lists (held_in (with_minima l r words) false) (held_in words false) d l r left right
    (ap (λ w. held_in w false) is ∙ says l r total) (says left right sum)

-- so a dictionary has other minima, and is as it was otherwise
pub minima-held : (words : List ℕ) (l r : ℕ) (parts : Bool) → KeepsLists words
    → held_in (with_minima l r words) parts ≡ record (held_in words parts) { left = l; right = r }
minima-held words l r parts kept = grind (arith, append_assoc, same-said, from_end-tail)

-- and they may become others again
pub still-kept : (words : List ℕ) (l r : ℕ) → KeepsLists words → KeepsLists (with_minima l r words)
still-kept words l r kept = grind (arith, append_assoc, minima-of)

pub minima-length : (words : List ℕ) (l r : ℕ) → is_sealed words ≡ true
    → length (with_minima l r words) ≡ length words
minima-length words l r is = grind (arith, length-append, length-take, sealed-long)
