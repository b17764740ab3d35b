-- First fit: the widths of lines, the greedy division, which is the only one and has the fewest
-- lines.
use Rattle.textwrap_text.proofs.Common.{◌≡◌, ◌+◌, ◌-◌, ◌<◌, ◌∷◌, map, sym, ◌∙◌, suc, min, ◌≤◌, ℕ}
use Rattle.textwrap_text.proofs.Common.{sum_by-append, length-append, append_assoc, List}
use Rattle.textwrap_text.proofs.Common.{take-append-drop, take-append-add, [], take_more}
use Rattle.textwrap_text.proofs.Common.{append-nil, ◌++◌, take, refl, arith, zero, drop, subst}
use Rattle.textwrap_text.proofs.Common.{rules, length, get_or, All-nil, cases_lt, drop_at, ap, All}
use Rattle.textwrap_text.proofs.Common.{◌≢◌, inl, inr, sum_by-cons, add-one, length-drop}
use Rattle.textwrap_text.proofs.Common.{length_push, get_or-drop, take-append-le, length-take-le}
use Rattle.textwrap_text.proofs.Common.{All-cons, All-head, All-tail, add-zero, flat_map, take_all}
use Rattle.textwrap_base.proofs.Common.{Fits, closed_width, AreEqualFromSecond, line_width}
use Rattle.textwrap_base.proofs.Common.{IsGreedy, IsDivision, Sizes, AllFit, AllFull, open_width}
use Rattle.textwrap_text.proofs.Lists.Parts.{some_from_nonempty, flat, same_parts}
use Rattle.std.proofs.lemmas.List.{drop-append-le}
use Rattle.textwrap_base.specs.Division.{IsAdmissible}

-- ---- lemmas on the widths of a line that grows by one fragment

module _ {X : Type 0} (sizes : X → Sizes) where
  pub open_width-cons : (x : X) (xs : List X)
      → open_width sizes (x ∷ xs) ≡ (sizes x).width + (sizes x).whitespace + open_width sizes xs
  open_width-cons x xs = sum_by-cons (λ (y : X). (sizes y).width + (sizes y).whitespace) x xs

  pub open_width-append : (xs ys : List X)
      → open_width sizes (xs ++ ys) ≡ open_width sizes xs + open_width sizes ys
  open_width-append xs ys = sum_by-append (λ (y : X). (sizes y).width + (sizes y).whitespace) xs ys

  pub closed_width-push : (xs : List X) (x : X)
      → closed_width sizes (xs ++ x ∷ []) ≡ open_width sizes xs + (sizes x).width +
      (sizes x).penalty
  closed_width-push [] x = omega arith
  closed_width-push (y ∷ []) x = omega arith
  closed_width-push (y ∷ z ∷ xs) x =
      let h = closed_width-push (z ∷ xs) x in omega (arith, open_width-cons y (z ∷ xs), h)

  -- the first i fragments and the one at i
  pub take_one_more : (xs : List X) (i : ℕ) (x : X) → i < length xs → x ≡ get_or xs i x
      → take (i + 1) xs ≡ take i xs ++ x ∷ []
  take_one_more xs i x within is = take_more xs i x within ∙ ap (λ y. take i xs ++ y ∷ []) (sym is)

  pub open_width-take : (xs : List X) (i : ℕ) (x : X) → i < length xs → x ≡ get_or xs i x
      → open_width sizes (take (i + 1) xs) ≡ open_width sizes (take i xs) +
      ((sizes x).width + (sizes x).whitespace)
  open_width-take xs i x within is =
      let more = ap (open_width sizes) (take_one_more xs i x within is)
      ∙ open_width-append (take i xs) (x ∷ []) in omega (arith, more)

  pub closed_width-take : (xs : List X) (i : ℕ) (x : X) → i < length xs → x ≡ get_or xs i x
      → closed_width sizes (take (i + 1) xs) ≡ open_width sizes (take i xs) + (sizes x).width +
      (sizes x).penalty
  closed_width-take xs i x within is = ap (closed_width sizes) (take_one_more xs i x within is)
      ∙ closed_width-push (take i xs) x

  -- with one fragment more, its widths and the whitespace before it take the place of the penalty
  -- before it
  pub closed_width-next : (xs : List X) (j : ℕ) (x y : X) → 0 < j → j < length xs
      → x ≡ get_or xs (j - 1) x → y ≡ get_or xs j y
      → closed_width sizes (take (j + 1) xs) + (sizes x).penalty ≡ closed_width sizes (take j xs) +
      ((sizes x).whitespace + (sizes y).width + (sizes y).penalty)
  closed_width-next xs j x y some within before last =
      grind (arith, closed_width-take, open_width-take)

pub closed_width-map : {X Y : Type 0} (f : X → Y) (sizes : Y → Sizes) (xs : List X)
    → closed_width sizes (map f xs) ≡ closed_width (λ x. sizes (f x)) xs
closed_width-map f sizes [] = refl
closed_width-map f sizes (x ∷ []) = refl
closed_width-map f sizes (x ∷ y ∷ xs) = search (rules, arith, closed_width-map f sizes (y ∷ xs))

-- ---- line widths that are equal line by line

-- one width is the same for all lines
pub one-width : (width : ℕ) → AreEqualFromSecond (width ∷ [])
one-width width = λ k later within. absurd (omega arith)

pub line_width-one : (width number : ℕ) → line_width (width ∷ []) number ≡ width
line_width-one width number = let first : min number 0 ≡ 0 = omega arith in rw first refl

pub line_width-later : (first later number : ℕ) → line_width (first ∷ later ∷ []) (number + 1) ≡ later
line_width-later first later number = search (rules, arith)

pub line_width-two : (width number : ℕ) → line_width (width ∷ width ∷ []) number ≡ width
line_width-two width zero = refl
line_width-two width (suc number) = rw (← add-one) (line_width-later width width number)

module _ {X : Type 0} (sizes : X → Sizes) (widths others : List ℕ)
    (same : (number : ℕ) → line_width widths number ≡ line_width others number) where
  AllFit-same : (number : ℕ) (lines : List (List X)) → AllFit sizes widths number lines
      → AllFit sizes others number lines
  AllFit-same number [] fit = tt
  AllFit-same number (line ∷ lines) fit = grind (arith, AllFit-same (number + 1) lines fit.1)

  AllFull-same : (number : ℕ) (lines : List (List X)) → AllFull sizes widths number lines
      → AllFull sizes others number lines
  AllFull-same number [] full = tt
  AllFull-same number (line ∷ []) full = tt
  AllFull-same number (line ∷ next ∷ lines) full =
      grind (arith, AllFull-same (number + 1) (next ∷ lines) full.1)

  pub IsGreedy-same : (xs : List X) (lines : List (List X)) → IsGreedy sizes widths xs lines
      → IsGreedy sizes others xs lines
  IsGreedy-same xs lines greedy = search (AllFit-same, AllFull-same)

-- ---- fragments without penalties, for which the first line has room, are one line by first fit

pub division_one : {X : Type 0} (xs : List X) → IsDivision xs (xs ∷ [])
division_one [] = refl
division_one (x ∷ xs) = grind (arith, append-nil, All-cons, All-nil)

-- ---- first fit

module _ {X : Type 0} (sizes : X → Sizes) where
  abbrev pub HasNone : X → Type 0
  HasNone x = (sizes x).penalty ≡ 0

  -- without penalties a prefix closes within the whole
  pub closed-take : (xs : List X) (k : ℕ) → All HasNone xs
      → closed_width sizes (take k xs) ≤ closed_width sizes xs
  closed-take [] zero none = omega arith
  closed-take [] (suc k) none = omega arith
  closed-take (x ∷ xs) zero none = omega arith
  closed-take (x ∷ []) (suc zero) none = omega arith
  closed-take (x ∷ []) (suc (suc k)) none = omega arith
  closed-take (x ∷ y ∷ xs) (suc zero) none = search (rules, arith, All-head)
  closed-take (x ∷ y ∷ xs) (suc (suc k)) none = let rest =
      closed-take (y ∷ xs) (suc k) (All-tail HasNone x (y ∷ xs) none) in omega (arith, rest)

-- ---- lemmas on lines that fit, and on greedy divisions

module _ {X : Type 0} (sizes : X → Sizes) where
  -- a line that fits takes one more fragment, if that is its first or it closes within the width
  pub Fits-push : (width : ℕ) (xs : List X) (x : X) → Fits sizes width xs
      → (0 < length xs → closed_width sizes (xs ++ x ∷ []) ≤ width)
      → Fits sizes width (xs ++ x ∷ [])
  Fits-push width xs x fits more k two within = grind (arith, take-append-le, length_push, take_all)

  pub Fits-take : (width : ℕ) (xs : List X) (i : ℕ) (x : X) → i < length xs → x ≡ get_or xs i x
      → Fits sizes width (take i xs)
      → (0 < i → closed_width sizes (take (i + 1) xs) ≤ width) → Fits sizes width (take (i + 1) xs)
  Fits-take width xs i x within is fits more =
      let one_more = take_one_more sizes xs i x within is in
      grind (arith, length-take-le, Fits-push)

  -- the end of a line closes within the whole
  pub closed_width-end : (before line : List X)
      → closed_width sizes line ≤ closed_width sizes (before ++ line)
  closed_width-end [] line = omega arith
  closed_width-end (x ∷ []) [] = omega arith
  closed_width-end (x ∷ []) (y ∷ line) = omega arith
  closed_width-end (x ∷ y ∷ before) line = search (rules, arith, closed_width-end (y ∷ before) line)

  -- where a line has no room for the fragment after it, no line that fits and begins no later ends
  -- after it
  pub full_line_ends_last : (width : ℕ) (before line next rest other others : List X)
      → other ++ others ≡ (before ++ line) ++ (next ++ rest) → line ≢ [] → next ≢ []
      → width < closed_width sizes (line ++ take 1 next) → Fits sizes width other
      → length other ≤ length (before ++ line)
  full_line_ends_last width before line [] rest other others same some more full fits = grind arith
  full_line_ends_last width before line (x ∷ next) rest other others same some more full fits =
      elim (cases_lt (length (before ++ line)) (length other)) [
        | inl past ↦
            let n : ℕ = length (before ++ line) + 1 in
            let two : 2 ≤ n = omega (arith, length-append before line, some_from_nonempty line some)
            in
            let front : take n other ≡ before ++ (line ++ x ∷ []) =
            sym (take-append-le n other others (omega arith)) ∙ ap (take n) same
            ∙ take-append-add (before ++ line) ((x ∷ next) ++ rest) 1
            ∙ append_assoc before line (x ∷ []) in
            let within = rw front at (fits n two (omega arith)) in
            absurd (omega (arith, within, closed_width-end before (line ++ x ∷ []), full))
        | inr within ↦ within
      ]

-- a greedy division of the fragments that are left, from a line's number on; none are left by no
-- lines
pub record IsGreedyFrom {X : Type 0} (sizes : X → Sizes) (widths : List ℕ) (number : ℕ)
    (xs : List X) (lines : List (List X)) : Type 0 where
  pub whole : flat_map (λ line. line) lines ≡ xs
  pub nonempty : All (λ line. line ≢ []) lines
  pub fit : AllFit sizes widths number lines
  pub full : AllFull sizes widths number lines

module _ {X : Type 0} (sizes : X → Sizes) (widths : List ℕ) where
  full-cons : (number : ℕ) (xs : List X) (n : ℕ)
      → (n < length xs → line_width widths number < closed_width sizes (take (n + 1) xs))
      → (tail : List (List X))
      → flat_map (λ line. line) tail ≡ drop n xs → All (λ line. line ≢ []) tail
      → AllFull sizes widths (number + 1) tail → AllFull sizes widths number (take n xs ∷ tail)
  full-cons number xs n full [] whole nonempty tail = tt
  full-cons number xs n full ([] ∷ lines) whole nonempty tail = grind (arith, All-head, nonempty)
  full-cons number xs n full ((x ∷ line) ∷ lines) whole nonempty tail =
      let len : length (drop n xs) ≡ suc (length (line ++ flat_map (λ l. l) lines)) =
      ap length (sym whole) in
      let within : n < length xs = omega (arith, length-drop n xs) in
      let at : get_or xs n x ≡ x = ap (λ m. get_or xs m x) (sym (add-zero n))
      ∙ sym (get_or-drop n xs 0 x) ∙ ap (λ l. get_or l 0 x) (sym whole) in
      (rw (take_more xs n x within, at) at (full within), tail)

  pub IsGreedyFrom-cons : (number : ℕ) (xs : List X) (n : ℕ) → 0 < n → n ≤ length xs
      → Fits sizes (line_width widths number) (take n xs)
      → (n < length xs → line_width widths number < closed_width sizes (take (n + 1) xs))
      → (tail : List (List X)) → IsGreedyFrom sizes widths (number + 1) (drop n xs) tail
      → IsGreedyFrom sizes widths number xs (take n xs ∷ tail)
  IsGreedyFrom-cons number xs n some within fits full tail rest =
      grind (arith, take-append-drop, full-cons)

  pub IsGreedy-from : (xs : List X) (lines : List (List X)) → 0 < length xs
      → IsGreedyFrom sizes widths 0 xs lines → IsGreedy sizes widths xs lines
  IsGreedy-from [] lines some greedy = absurd (omega arith)
  IsGreedy-from (x ∷ xs) lines some greedy = grind arith

-- ---- a list of fragments has at most one greedy division

module _ {X : Type 0} (sizes : X → Sizes) (widths : List ℕ) where
  AllFull-tail : (number : ℕ) (line : List X) (lines : List (List X))
      → AllFull sizes widths number (line ∷ lines) → AllFull sizes widths (number + 1) lines
  AllFull-tail number line [] full = tt
  AllFull-tail number line (next ∷ lines) full = full.1

  IsGreedyFrom-tail : (number : ℕ) (xs line : List X) (lines : List (List X))
      → IsGreedyFrom sizes widths number xs (line ∷ lines)
      → IsGreedyFrom sizes widths (number + 1) (flat_map (λ l. l) lines) lines
  IsGreedyFrom-tail number xs line lines greedy = record {
    whole = refl;
    nonempty = All-tail (λ l. l ≢ []) line lines greedy.nonempty;
    fit = greedy.fit.1;
    full = AllFull-tail number line lines greedy.full;
  }

  -- a full line is not shorter than one that fits
  not_shorter : (number : ℕ) (xs line other : List X) (lines others : List (List X))
      → IsGreedyFrom sizes widths number xs (line ∷ lines)
      → IsGreedyFrom sizes widths number xs (other ∷ others) → length line < length other → ⊥
  not_shorter number xs line other [] others first second short = search (rules, length-append)
  not_shorter number xs line other (next ∷ lines) others first second short =
      let later = All-tail (λ l. l ≢ []) line (next ∷ lines) first.nonempty in
      omega (
        arith,
        full_line_ends_last sizes _ [] line next (flat lines) other (flat others)
            (second.whole ∙ sym first.whole) (All-head (λ l. l ≢ []) line (next ∷ lines) first.nonempty)
            (All-head (λ l. l ≢ []) next lines later) first.full.0 second.fit.0,
      )

  some_fragments : (number : ℕ) (xs line : List X) (lines : List (List X))
      → IsGreedyFrom sizes widths number xs (line ∷ lines) → 0 < length xs
  some_fragments number xs line lines greedy =
      grind (arith, some_from_nonempty, All-head, length-append)

  same_lines : (first second : List (List X)) (number : ℕ) (xs : List X)
      → IsGreedyFrom sizes widths number xs first → IsGreedyFrom sizes widths number xs second
      → first ≡ second
  same_lines [] [] number xs one other = refl
  same_lines [] (line ∷ lines) number xs one other =
      absurd (omega (arith, some_fragments number xs line lines other, ap length one.whole))
  same_lines (line ∷ lines) [] number xs one other =
      absurd (omega (arith, some_fragments number xs line lines one, ap length other.whole))
  same_lines (line ∷ lines) (other ∷ others) number xs first second =
      let not_less = not_shorter number xs line other lines others first second in
      let not_more = not_shorter number xs other line others lines second first in
      let len : length line ≡ length other = grind (arith, not_less, not_more) in
      let parts = same_parts line other (flat lines) (flat others)
      (first.whole ∙ sym second.whole) len in
      let tails = same_lines lines others (number + 1) (flat lines)
      (IsGreedyFrom-tail number xs line lines first)
      (subst (λ ys. IsGreedyFrom sizes widths (number + 1) ys others) (sym parts.1)
      (IsGreedyFrom-tail number xs other others second)) in search (rules, arith)

  pub greedy_unique : (xs : List X) (first second : List (List X)) → IsGreedy sizes widths xs first
      → IsGreedy sizes widths xs second → first ≡ second
  greedy_unique [] first second one other = one.admissible.division ∙ sym other.admissible.division
  greedy_unique (x ∷ xs) first second one other =
      same_lines first second 0 (x ∷ xs) (grind arith) (grind arith)

-- ---- no division whose lines all fit has fewer lines than the greedy one

module _ {X : Type 0} (sizes : X → Sizes) (widths : List ℕ) where
  -- full lines are not more than other lines that all fit and begin no later
  fewest_from : (number : ℕ) (before : List X) (lines others : List (List X))
      → flat others ≡ before ++ flat lines → All (λ line. line ≢ []) lines
      → AllFull sizes widths number lines → AllFit sizes widths number others
      → length lines ≤ length others
  fewest_from number before [] others same some full fit = omega arith
  fewest_from number before (line ∷ lines) [] same some full fit = omega (
    arith,
    ap length same,
    length-append before (line ++ flat lines),
    length-append line (flat lines),
    some_from_nonempty line (All-head (λ l. l ≢ []) line lines some),
  )
  fewest_from number before (line ∷ []) (other ∷ others) same some full fit = omega arith
  fewest_from number before (line ∷ next ∷ lines) (other ∷ others) same some full fit =
      let later : All (λ l. l ≢ []) (next ∷ lines) =
      All-tail (λ l. l ≢ []) line (next ∷ lines) some in
      let whole : other ++ flat others ≡ (before ++ line) ++ flat (next ∷ lines) =
      same ∙ sym (append_assoc before line (flat (next ∷ lines))) in
      let within : length other ≤ length (before ++ line) =
      search (full_line_ends_last, All-head) in
      let left : flat others ≡ drop (length other) (before ++ line) ++ flat (next ∷ lines) =
      sym (drop_at other (flat others) (length other) refl) ∙ ap (drop (length other)) whole
      ∙ drop-append-le (length other) (before ++ line) (flat (next ∷ lines)) within in
      let again = fewest_from (number + 1) (drop (length other) (before ++ line)) (next ∷ lines)
      others left later full.1 fit.1 in search (rules, arith)

  pub greedy_fewest : (xs : List X) (lines others : List (List X)) → IsGreedy sizes widths xs lines
      → IsAdmissible sizes widths xs others → length lines ≤ length others
  greedy_fewest [] lines others greedy admissible = search (rules, arith)
  greedy_fewest (x ∷ xs) lines others greedy admissible = fewest_from 0 [] lines others
      (admissible.division.0 ∙ sym greedy.admissible.division.0) greedy.admissible.division.1
      greedy.full admissible.fit
