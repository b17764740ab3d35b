-- First fit fragment by fragment: the lines that are found so are the greedy division.
use Rattle.textwrap_text.proofs.{Common.ℕ, Lists.Parts.flat}
use Rattle.textwrap_text.proofs.Common.{[], append_assoc, if◌then◌else◌, length-append, length_push}
use Rattle.textwrap_text.proofs.Common.{All-cons, and_parts, and_right, append-nil, Bool, cond_both}
use Rattle.textwrap_text.proofs.Common.{All-nil, and_from, arith, le-ltb, length, ltb-true, take_at}
use Rattle.textwrap_text.proofs.Common.{false, List, lt-ltb, nat_lt, refl, rules, subst, take, true}
use Rattle.textwrap_text.proofs.Common.{All, ap, sym, ◌&&◌, ◌++◌, ◌+◌, ◌<◌, ◌∙◌, ◌∷◌, ◌≡◌, ◌≢◌, ◌≤◌}
use Rattle.std.proofs.lemmas.Bool.{cond-false, cond-true}
use Rattle.textwrap_base.proofs.Common.{AllFit, AllFull, closed_width, IsGreedy, line_width, Sizes}
use Rattle.textwrap_base.proofs.Common.{Fits}
use Rattle.textwrap_base.proofs.Division.Greedy.{Fits-push, IsGreedy-from}

-- ---- lemmas on first fit fragment by fragment, where all lines but the first have one width: a
-- line takes the next one where it has room for it, and else the next one begins a line

module _ {X : Type 0} (sizes : X → Sizes) where
  -- a line of this width has fragments, and no room for one more
  abbrev pub is_full : ℕ → List X → X → Bool
  is_full width line x = nat_lt 0 (length line) && nat_lt width (closed_width sizes (line ++ x ∷ []))

  not_full : (width : ℕ) (x : X) (line : List X)
      → (0 < length line → closed_width sizes (line ++ x ∷ []) ≤ width) → is_full width line x ≡ false
  not_full width x [] room = refl
  not_full width x (y ∷ line) room = search (rules, arith, and_right, le-ltb)

  -- where all fragments fit one line, no prefix of them is full
  pub prefix-closes : (width : ℕ) (line : List X) (x : X) (xs : List X)
      → Fits sizes width (line ++ x ∷ xs)
      → 0 < length line → closed_width sizes (line ++ x ∷ []) ≤ width
  prefix-closes width line x xs fits some = subst (λ l. closed_width sizes l ≤ width)
      (ap (take (length line + 1)) (sym (append_assoc line (x ∷ []) xs))
      ∙ take_at (line ++ x ∷ []) xs (length line + 1) (length_push line x))
      (fits (length line + 1) (omega (arith, some)) (omega (arith, length-append line (x ∷ xs))))

module _ {X : Type 0} (sizes : X → Sizes) (later : ℕ) where
  -- the lines of the fragments that are left, after those on a line so far: that line has a width
  -- of its own, and the lines after it have the later one
  abbrev pub grown : ℕ → List X → List X → List (List X)
  grown width [] line = line ∷ []
  grown width (x ∷ xs) line = if is_full sizes width line x then line ∷ grown later xs (x ∷ [])
      else grown width xs (line ++ x ∷ [])

  pub grown-full : (width : ℕ) (x : X) (xs line : List X) → 0 < length line
      → width < closed_width sizes (line ++ x ∷ [])
      → grown width (x ∷ xs) line ≡ line ∷ grown later xs (x ∷ [])
  grown-full width x xs line some over = search (cond-true, and_from, lt-ltb)

  pub grown-room : (width : ℕ) (x : X) (xs line : List X)
      → (0 < length line → closed_width sizes (line ++ x ∷ []) ≤ width)
      → grown width (x ∷ xs) line ≡ grown width xs (line ++ x ∷ [])
  grown-room width x xs line room = search (cond-false, not_full)

  abbrev Begins : List X → List (List X) → Type 0
  Begins line lines = (more : List X) × (rest : List (List X)) × (lines ≡ (line ++ more) ∷ rest)

  pub grown-begins : (width : ℕ) (xs line : List X)
      → (more : List X) × (rest : List (List X)) × (grown width xs line ≡ (line ++ more) ∷ rest)
  grown-begins width [] line = ([], [], ap (λ l. l ∷ []) (sym (append-nil line)))
  grown-begins width (x ∷ xs) line =
      let next = grown later xs (x ∷ []) in
      cond_both (is_full sizes width line x) (line ∷ next) (grown width xs (line ++ x ∷ []))
      (Begins line) (λ full. ([], next, ap (λ l. l ∷ next) (sym (append-nil line))))
      (grind (arith, append_assoc, grown-begins width xs (line ++ x ∷ [])))

-- ---- lines that are found fragment by fragment are the greedy division

module _ {X : Type 0} (sizes : X → Sizes) (later : ℕ) (widths : List ℕ)
    (others : (n : ℕ) → line_width widths (n + 1) ≡ later) where
  -- all fragments on lines that fit, of which no one but the last has room for more, where the
  -- first of them has this width
  record AreGrown (width : ℕ) (xs line : List X) (lines : List (List X)) : Type 0 where
    pub whole : flat lines ≡ line ++ xs
    pub nonempty : 0 < length (line ++ xs) → All (λ l. l ≢ []) lines
    pub fit : Fits sizes width line → (n : ℕ) → line_width widths n ≡ width
        → AllFit sizes widths n lines
    pub full : (n : ℕ) → line_width widths n ≡ width → AllFull sizes widths n lines

  AreGrown-full : (width : ℕ) (x : X) (xs line : List X) → is_full sizes width line x ≡ true
      → AreGrown later xs (x ∷ []) (grown sizes later later xs (x ∷ []))
      → AreGrown width (x ∷ xs) line (line ∷ grown sizes later later xs (x ∷ []))
  AreGrown-full width x xs line at_end after =
      let closed = closed_width sizes (line ++ x ∷ []) in
      let (some, over) = and_parts (nat_lt 0 (length line)) (nat_lt width closed) at_end in
      let (more, rest, is) = grown-begins sizes later later xs (x ∷ []) in
      grind (arith, All-cons, ltb-true)

  AreGrown-room : (width : ℕ) (x : X) (xs line : List X) (lines : List (List X))
      → is_full sizes width line x ≡ false
      → AreGrown width xs (line ++ x ∷ []) lines → AreGrown width (x ∷ xs) line lines
  AreGrown-room width x xs line lines room after = grind (arith, append_assoc, Fits-push)

  are_grown : (width : ℕ) (xs line : List X)
      → AreGrown width xs line (grown sizes later width xs line)
  are_grown width [] line = grind (arith, All-cons, append-nil, All-nil)
  are_grown width (x ∷ xs) line =
      let next = grown sizes later later xs (x ∷ []) in
      let same = grown sizes later width xs (line ++ x ∷ []) in
      cond_both (is_full sizes width line x) (line ∷ next) same (AreGrown width (x ∷ xs) line)
      (λ full. AreGrown-full width x xs line full (are_grown later xs (x ∷ [])))
      (λ room. AreGrown-room width x xs line same room (are_grown width xs (line ++ x ∷ [])))

  Fits-none : (width : ℕ) → Fits sizes width []
  Fits-none width k two within = absurd (omega (arith, two, within))

  -- these lines are those of first fit at these line widths
  pub grown-greedy : (first : ℕ) → line_width widths 0 ≡ first → (xs : List X)
      → IsGreedy sizes widths xs (grown sizes later first xs [])
  grown-greedy first same [] = search (Fits-none)
  grown-greedy first same (x ∷ xs) =
      let lines = are_grown first (x ∷ xs) [] in grind (arith, IsGreedy-from, Fits-none)
