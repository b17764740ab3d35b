-- Lemmas on what an algorithm may divide, also one of a caller: its lines are the first elements in
-- order, and along a view they are those of what the view gives.
use Rattle.textwrap_text.proofs.Common.{append-nil, append_assoc, drop_split, length-map, take-map}
use Rattle.textwrap_text.proofs.Common.{arith, drop, length, List, map-id, None, rules, Some, subst}
use Rattle.textwrap_text.proofs.Common.{[], ap, map, refl, sym, ℕ, ◌<◌, ◌∙◌, ◌∷◌, ◌≡◌, ◌≢◌}
use Rattle.textwrap_base.proofs.Division.Map.{IsDividedBy-map, IsDividedBy-some, IsDividedBy-whole}
use Rattle.textwrap_words.proofs.Common.{algorithm_view, AreNext, IsDividedBy, ByOptimalFit, MayDivide}
use Rattle.textwrap_words.proofs.Common.{Begins, drop-map, flat, ByFirstFit, MayEnd, sizes_of, WordText}
use Rattle.textwrap_words.specs.LineEnds.{AreEnds, IsNextEnd, lines_from}
use Rattle.textwrap_words.specs.declared.wrap_algorithms.WrapAlgorithm.{WrapAlgorithm}
use Rattle.textwrap_words.specs.declared.wrap_algorithms.WrapAlgorithm.TheVariants.{OptimalFit}
use Rattle.textwrap_words.specs.declared.wrap_algorithms.WrapAlgorithm.TheVariants.{FirstFit}
use Rattle.textwrap_words.specs.declared.wrap_algorithms.WrapAlgorithm.TheVariants.{Custom}
use Rattle.textwrap_words.specs.declared.wrap_algorithms.line_ends.LineEnds.{LineEnds}

-- up to an end, the lines are the first elements from a place on
pub lines_from-begin : {X : Type 0} (xs : List X) (start : ℕ) (ends : List ℕ)
    → AreNext (IsNextEnd (length xs)) ends start → Begins (drop start xs) (flat (lines_from xs start ends))
lines_from-begin xs start [] are = (drop start xs, refl)
lines_from-begin xs start (end ∷ ends) ((after, _), next) =
    search (rules, arith, append_assoc, drop_split, lines_from-begin xs end ends next)

pub lines_from-map : {X Y : Type 0} (f : X → Y) (xs : List X) (start : ℕ) (ends : List ℕ)
    → map (map f) (lines_from xs start ends) ≡ lines_from (map f xs) start ends
lines_from-map f xs start [] = refl
lines_from-map f xs start (end ∷ ends) =
    grind (arith, drop-map, take-map, lines_from-map f xs end ends)

-- ---- what an algorithm may divide

pub MayEnd-ends : {F X : Type 0} {f : _} (given : LineEnds F f) (view : X → WordText) (xs : List X)
    (widths ends : List ℕ) → MayEnd given (map view xs) widths ends → AreEnds xs ends
MayEnd-ends given view xs widths ends (alloc, asked, lent, answer, words, same, is, met) =
    search (rules, arith, length-map)

module _ {F : Type 0} {f : _} where
  pub MayDivide-map : {X : Type 0} (algorithm : WrapAlgorithm F f) (view : X → WordText)
      (widths : List ℕ) (xs : List X) (lines : List (List X))
      → MayDivide algorithm view widths xs lines
      → MayDivide algorithm (λ w. w) widths (map view xs) (map (map view) lines)
  MayDivide-map FirstFit view widths xs lines divided = search (rules, arith, IsDividedBy-map)
  MayDivide-map (OptimalFit penalties) view widths xs lines divided =
      IsDividedBy-map view sizes_of (ByOptimalFit penalties) widths xs lines divided
  MayDivide-map (Custom given) view widths xs lines (ends, may, is) = (
    ends,
    subst (λ ws. MayEnd given ws widths ends) (sym (map-id (map view xs))) may,
    ap (map (map view)) is ∙ lines_from-map view xs 0 ends,
  )

  -- the lines of a built-in algorithm are all elements in order
  pub MayDivide-whole : {X : Type 0} (algorithm : WrapAlgorithm F f) (view : X → WordText)
      (widths : List ℕ) (xs : List X) (lines : List (List X)) → algorithm_view algorithm ≢ None
      → MayDivide algorithm view widths xs lines → flat lines ≡ xs
  MayDivide-whole FirstFit view widths xs lines built_in divided = grind (arith, IsDividedBy-whole)
  MayDivide-whole (OptimalFit penalties) view widths xs lines built_in divided =
      IsDividedBy-whole (λ x. sizes_of (view x)) (ByOptimalFit penalties) widths xs lines divided
  MayDivide-whole (Custom given) view widths xs lines built_in divided = absurd (built_in refl)

  -- the lines of any algorithm are the first elements in order
  pub MayDivide-begins : {X : Type 0} (algorithm : WrapAlgorithm F f) (view : X → WordText)
      (widths : List ℕ) (xs : List X) (lines : List (List X))
      → MayDivide algorithm view widths xs lines → Begins xs (flat lines)
  MayDivide-begins FirstFit view widths xs lines divided = grind (arith, append-nil)
  MayDivide-begins (OptimalFit penalties) view widths xs lines divided = (
    [],
    append-nil (flat lines)
        ∙ IsDividedBy-whole (λ x. sizes_of (view x)) (ByOptimalFit penalties) widths xs lines divided,
  )
  MayDivide-begins (Custom given) view widths xs lines (ends, may, is) =
      subst (λ ls. Begins xs (flat ls)) (sym is)
      (lines_from-begin xs 0 ends (MayEnd-ends given view xs widths ends may))

  -- there is a line at least
  pub MayDivide-some : {X : Type 0} (algorithm : WrapAlgorithm F f) (view : X → WordText)
      (widths : List ℕ) (xs : List X) (lines : List (List X)) → algorithm_view algorithm ≢ None
      → MayDivide algorithm view widths xs lines → 0 < length lines
  MayDivide-some FirstFit view widths xs lines built_in divided =
      IsDividedBy-some (λ x. sizes_of (view x)) ByFirstFit widths xs lines divided
  MayDivide-some (OptimalFit penalties) view widths xs lines built_in divided =
      IsDividedBy-some (λ x. sizes_of (view x)) (ByOptimalFit penalties) widths xs lines divided
  MayDivide-some (Custom given) view widths xs lines built_in divided = absurd (built_in refl)

  pub MayDivide-greedy : {X : Type 0} (algorithm : WrapAlgorithm F f) (view : X → WordText)
      (widths : List ℕ) (xs : List X) (lines : List (List X))
      → algorithm_view algorithm ≡ Some ByFirstFit → MayDivide algorithm view widths xs lines
      → IsDividedBy ByFirstFit (λ x. sizes_of (view x)) widths xs lines
  MayDivide-greedy FirstFit view widths xs lines is divided = divided
  MayDivide-greedy (OptimalFit penalties) view widths xs lines is divided = cc
  MayDivide-greedy (Custom given) view widths xs lines is divided = cc
