-- A paragraph in steps: the points of a text that are inside a part of it, and its words, split there.
use Rattle.textwrap_lines.proofs.Common.{rules}
use Rattle.textwrap_lines.proofs.Common.{append_assoc, get_or-drop, IsCharBoundary, length-append}
use Rattle.textwrap_lines.proofs.Common.{and_parts, append-nil, cases_Bool, drop-drop, length-drop}
use Rattle.textwrap_lines.proofs.Common.{AreCuts, drop_at, ltb-false, ltb-true, split_at, WordText}
use Rattle.textwrap_lines.proofs.Common.{arith, Bool, false, get_or, length, subst, tile_of, tiled}
use Rattle.textwrap_lines.proofs.Common.{drop, inl, inr, List, refl, suc, take, true, zero, ℕ, ◌++◌}
use Rattle.textwrap_lines.proofs.Common.{[], ap, sym, ◌+◌, ◌-◌, ◌<◌, ◌^◌, ◌∙◌, ◌∷◌, ◌≡◌, ◌≤◌}
use Rattle.textwrap_text.proofs.Common.{filter, get_or_append_left, nat_tests}
use Rattle.std.specs.List.Sorted.{IsPartitionPoint}
use Rattle.textwrap_words.proofs.Common.{AreInnerCuts, AreSplit, split_pieces}
use Rattle.textwrap_words.specs.Cuts.{AreLaterCuts, AreNext, IsNextPoint}
use Rattle.std.proofs.lemmas.Bool.{leb-false, leb-true}
use Rattle.std.proofs.Common.{Fits, w64}
use lib.Dec.{leb, ltb}
use Rattle.std.proofs.lemmas.List.Elements.{filter_passes}
use Rattle.textwrap_lines.specs.Steps.{is_between, points_within}

-- ---- those between two places

-- those that pass a test are the first ones
filter-first : (test : ℕ → Bool) (xs : List ℕ) (j : ℕ)
    → IsPartitionPoint (λ x. test x ≡ true) (λ x. test x ≡ false) xs j → take j xs ≡ filter test xs
filter-first test [] zero cut = refl
filter-first test [] (suc j) cut = refl
filter-first test (x ∷ xs) zero (low, high) =
    rw (high 0 x (omega arith) (omega arith)) (filter-first test xs zero (
      λ k d from below. absurd (omega (arith, below)),
      λ k d from below. high (suc k) d (omega arith) (omega (arith, below)),
    ))
filter-first test (x ∷ xs) (suc j) (low, high) =
    rw (low 0 x (omega arith) (omega arith)) (ap (λ ys. x ∷ ys) (filter-first test xs j (
      λ k d from below. low (suc k) d (omega arith) (omega (arith, below)),
      λ k d from below. high (suc k) d (omega (arith, from)) (omega (arith, below)),
    )))

-- none of the first ones passes it
filter-past : (test : ℕ → Bool) (xs : List ℕ) (i : ℕ) → i ≤ length xs
    → ((k d : ℕ) → k < i → test (get_or xs k d) ≡ false) → filter test (drop i xs) ≡ filter test xs
filter-past test xs zero within none = refl
filter-past test [] (suc i) within none = absurd (omega arith)
filter-past test (x ∷ xs) (suc i) within none = rw (none 0 x (omega arith))
    (filter-past test xs i (omega arith) (λ k d below. none (suc k) d (omega (arith, below))))

between-low : (start end p : ℕ) → p ≤ start → is_between start end p ≡ false
between-low start end p low = grind (arith, nat_tests)

between-high : (start end p : ℕ) → end ≤ p → is_between start end p ≡ false
between-high start end p high = grind (arith, nat_tests)

between-in : (start end p : ℕ) → start < p → p < end → is_between start end p ≡ true
between-in start end p after before = grind (arith, nat_tests)

between-both : (start end p : ℕ) → is_between start end p ≡ true → (start < p) × (p < end)
between-both start end p is =
    let (after, before) = and_parts _ _ is in (ltb-true start p after, ltb-true p end before)

-- each of them is after the first place
pub between-after : (start end : ℕ) (points : List ℕ) (k d : ℕ)
    → k < length (filter (is_between start end) points)
    → start ≤ get_or (filter (is_between start end) points) k d
between-after start end points k d within = search (rules, arith, between-both, filter_passes)

-- a list that was cut where a test of its numbers changes, and again
pub between-are : (points later : List ℕ) (i j start end : ℕ) → later ≡ drop i points
    → i ≤ length points → j ≤ length later
    → IsPartitionPoint (λ p. leb p start ≡ true) (λ p. leb p start ≡ false) points i
    → IsPartitionPoint (λ p. ltb p end ≡ true) (λ p. ltb p end ≡ false) later j
    → take j later ≡ filter (is_between start end) points
between-are points later i j start end is within here (low, past) (inside, high) =
    let test = is_between start end in
    let after : (k d : ℕ) → k < length later → start < get_or later k d =
    λ k d lt. omega (
      arith,
      ap (λ ps. get_or ps k d) is ∙ get_or-drop i points k d,
      leb-false (get_or points (i + k) d) start (past (i + k) d (omega arith)
          (omega (arith, lt, ap length is ∙ length-drop i points))),
    ) in
    filter-first test later j (
      λ k d from below. between-in start end _ (after k d (omega (arith, below, here)))
          (ltb-true _ end (inside k d from below)),
      λ k d from below. between-high start end _ (ltb-false _ end (high k d from below)),
    ) ∙ ap (filter test) is ∙ filter-past test points i within
    (λ k d below. between-low start end _ (leb-true _ start (low k d (omega arith) below)))

-- ---- a part that stands in a text

-- a place inside the part is one of the text
module _ (text part rest : List ℕ) (at : ℕ) (stands : drop at text ≡ part ++ rest) where
  boundary-inside : (point : ℕ) → IsCharBoundary text point → at < point → point < at + length part
      → IsCharBoundary part (point - at)
  boundary-inside point boundary after before =
      let place : at + (point - at) ≡ point = omega arith in
      let byte : get_or text point 0 ≡ get_or part (point - at) 0 =
      grind (
        arith,
        get_or-drop at text (point - at) 0,
        get_or_append_left part rest 0 (point - at),
      ) in
      let len : length text - at ≡ length part + length rest =
      grind (arith, length-drop at text, length-append part rest) in search (rules, arith)

  -- the points inside it are places where it may be cut
  within-next : (points : List ℕ) (last low : ℕ) → low ≤ last - at → AreLaterCuts last text points
      → AreNext (IsNextPoint part) (points_within at (length part) points) low
  within-next [] last low below are = tt
  within-next (point ∷ points) last low below ((after, inside, boundary), rest) =
      elim (cases_Bool (is_between at (at + length part) point)) [
        | inl is ↦
            let (past, before) = between-both at (at + length part) point is in
            rw is (
              (
                omega (arith, below, after),
                omega (arith, past, before),
                boundary-inside point boundary past before,
              ),
              within-next points point (point - at) (omega arith) rest,
            )
        | inr not ↦ rw not (within-next points point low (omega (arith, below, after)) rest)
      ]

-- ---- words that stand one after another

-- the text goes on after a word with the words after it
pub stands-next : (text : List ℕ) (w : WordText) (words : List WordText) (at : ℕ)
    → drop at text ≡ tiled (w ∷ words) → drop (at + length (tile_of w)) text ≡ tiled words
stands-next text w words at stands =
    sym (drop-drop (length (tile_of w)) at text) ∙ ap (drop (length (tile_of w))) stands
    ∙ drop_at (tile_of w) (tiled words) (length (tile_of w)) refl

-- the points inside a word are places where it may be cut
pub word-cuts : (text points : List ℕ) (w : WordText) (words : List WordText) (at : ℕ)
    → AreInnerCuts text points → drop at text ≡ tiled (w ∷ words)
    → AreCuts w.word (points_within at (length w.word) points)
word-cuts text points w words at are stands =
    within-next text w.word (w.whitespace ++ tiled words) at
    (stands ∙ append_assoc w.word w.whitespace (tiled words)) points 0 0 (omega arith) are

pub split_at-are : (text points : List ℕ) → AreInnerCuts text points → (words : List WordText)
    (at : ℕ) → drop at text ≡ tiled words → AreSplit AreCuts words (split_at at points words)
split_at-are text points are [] at stands = refl
split_at-are text points are (w ∷ words) at stands = (
  points_within at (length w.word) points,
  split_at (at + length (tile_of w)) points words,
  word-cuts text points w words at are stands,
  split_at-are text points are words (at + length (tile_of w)) (stands-next text w words at stands),
  refl,
)

-- ---- words that are split one after another

module _ (text points : List ℕ) where
  -- the first words are split into these pieces, and the text goes on from a place with the others
  pub record HasSplit (all pieces left : List WordText) (at : ℕ) : Type 0 where
    pub is : pieces ++ split_at at points left ≡ split_at 0 points all
    pub stands : drop at text ≡ tiled left
    pub within : at ≤ length text

  pub HasSplit-start : (all pieces : List WordText) → pieces ≡ [] → tiled all ≡ text
      → HasSplit all pieces all 0
  HasSplit-start all pieces none tile = record {
    is = ap (λ ws. ws ++ split_at 0 points all) none;
    stands = sym tile;
    within = omega arith;
  }

module _ {text points : List ℕ} {all pieces words : List WordText} {w : WordText} {at : ℕ}
    (so_far : HasSplit text points all pieces (w ∷ words) at) where
  here-fits : at + (length w.word + length w.whitespace) ≤ length text
  here-fits = omega (
    arith,
    so_far.within,
    length-drop at text,
    ap length so_far.stands,
    length-append (tile_of w) (tiled words),
    length-append w.word w.whitespace,
  )

  pub HasSplit-word : length text < 2 ^ 63 → at + length w.word < 2 ^ 63
  HasSplit-word limit = omega (arith, limit, here-fits)

  pub HasSplit-fits : length text < 2 ^ 63 → Fits w64 (at + (length w.word + length w.whitespace))
  HasSplit-fits limit = omega (arith, limit, here-fits)

  pub HasSplit-cuts : (inner : List ℕ) → AreInnerCuts text points
      → inner ≡ points_within at (length w.word) points → AreCuts w.word inner
  HasSplit-cuts inner are inner_is =
      subst (AreCuts w.word) (sym inner_is) (word-cuts text points w words at are so_far.stands)

  pub HasSplit-next : (inner : List ℕ) (more : List WordText)
      → inner ≡ points_within at (length w.word) points → more ≡ pieces ++ split_pieces inner w
      → HasSplit text points all more words (at + (length w.word + length w.whitespace))
  HasSplit-next inner more inner_is more_is =
      let len : length (tile_of w) ≡ length w.word + length w.whitespace =
      length-append w.word w.whitespace in
      let rest = split_at (at + length (tile_of w)) points words in
      rw (← len) (record {
        is = ap (λ ws. ws ++ rest) (more_is ∙ ap (λ ps. pieces ++ split_pieces ps w) inner_is)
            ∙ append_assoc pieces (split_pieces (points_within at (length w.word) points) w) rest
            ∙ so_far.is;
        stands = stands-next text w words at so_far.stands;
        within = omega (arith, here-fits, len);
      })

pub HasSplit-end : (text points : List ℕ) (all pieces : List WordText) (at : ℕ)
    → HasSplit text points all pieces [] at → pieces ≡ split_at 0 points all
HasSplit-end text points all pieces at so_far = sym (append-nil pieces) ∙ so_far.is
