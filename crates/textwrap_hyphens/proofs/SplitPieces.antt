-- The points of a word are cuts inside it, and no piece between them is empty.
use Rattle.textwrap_hyphens.proofs.{InnerPoints.points-cuts, SplitPoints.split-inner}
use Rattle.textwrap_hyphens.specs.{Splitting.ArePointsBy, Table.held}
use Rattle.textwrap_hyphens.specs.declared.table.PatternTable.{PatternTable}
use Rattle.textwrap_text.proofs.Common.{All, All-append, All-cons, All-head, All-nil, All-tail}
use Rattle.textwrap_text.proofs.Common.{IsUtf8, List, [], ap, arith, drop, length, slice_range}
use Rattle.textwrap_text.proofs.Common.{subst, sym, ℕ, ◌∷◌, ◌≤◌, inl, ◌<◌, ◌≡◌, ◌⊎◌}
use Rattle.textwrap_words.proofs.Common.{length-slice, AreCuts, AreInnerCuts, AreNext, IsNextCut}
use Rattle.textwrap_words.proofs.Common.{AreSplit, WordText, cut_penalty, piece, split_from}
use Rattle.textwrap_words.proofs.Common.{ends_in_hyphen, split_pieces, hyphen}
use Rattle.textwrap_words.proofs.Word.{Cuts.inner-cuts, Words.HasNoPenalty, Words.IsMeasured}
use Rattle.textwrap_hyphens.proofs.Held as table

-- ---- the points of a word by a dictionary

pub held-inner : (patterns : PatternTable) (text points : List ℕ) → IsUtf8 text
    → ArePointsBy (held patterns) text points → AreInnerCuts text points
held-inner patterns text points utf8 are =
    subst (AreInnerCuts text) (sym are) (split-inner (held patterns) text
    (points-cuts (held patterns) text utf8 (table.held-inner patterns)) utf8)

pub held-cuts : (patterns : PatternTable) (text points : List ℕ) → IsUtf8 text
    → ArePointsBy (held patterns) text points → AreCuts text points
held-cuts patterns text points utf8 are =
    inner-cuts text points (held-inner patterns text points utf8 are)

-- ---- the pieces between inner cuts

-- what holds of each piece before a cut, and of the last one, holds of all
module _ (P : WordText → Type 0)
    (last : (w : WordText) (start : ℕ) → HasNoPenalty w
    → P (piece (drop start w.word) w.whitespace w.penalty))
    (inner : (w : WordText) (start point : ℕ) → start < point → point < length w.word
    → P (piece (slice_range w.word start point) [] (cut_penalty w.word point))) where
  split_from-all : (w : WordText) (start : ℕ) (points : List ℕ) → HasNoPenalty w
      → AreNext (IsNextCut w.word) points start → All P (split_from w start points)
  split_from-all w start [] none are = grind (arith, All-cons, piece, All-nil)
  split_from-all w start (point ∷ points) none ((after, inside, at), rest) =
      All-cons P (piece (slice_range w.word start point) [] (cut_penalty w.word point))
      (split_from w point points) (inner w start point after inside)
      (split_from-all w point points none rest)

  module _ (Points : List ℕ → List ℕ → Type 0)
      (cuts : (text points : List ℕ) → IsUtf8 text → Points text points → AreInnerCuts text points) where
    pub AreSplit-all : (words pieces : List WordText) → All IsMeasured words
        → All HasNoPenalty words → AreSplit Points words pieces → All P pieces
    AreSplit-all [] pieces measured plain are = subst (All P) (sym are) (All-nil P)
    AreSplit-all (w ∷ words) pieces measured plain (points, rest, points_are, rest_are, is) =
        subst (All P) (sym is)
        (All-append P (split_pieces points w) rest
        (split_from-all w 0 points (All-head HasNoPenalty w words plain)
        (cuts w.word points (All-head IsMeasured w words measured).utf8 points_are))
        (AreSplit-all words rest (All-tail IsMeasured w words measured)
        (All-tail HasNoPenalty w words plain) rest_are))

-- a piece with a hyphen after it is not empty
abbrev pub CarriesHyphen : WordText → Type 0
CarriesHyphen w = length w.penalty ≤ length w.word

-- and behind it nothing is printed, or a hyphen
abbrev pub HasHyphenAtMost : WordText → Type 0
HasHyphenAtMost w = (w.penalty ≡ []) ⊎ (w.penalty ≡ hyphen ∷ [])

cut_penalty-cases : (text : List ℕ) (point : ℕ)
    → (cut_penalty text point ≡ []) ⊎ (cut_penalty text point ≡ hyphen ∷ [])
cut_penalty-cases text point = grind (arith, ends_in_hyphen)

module _ (Points : List ℕ → List ℕ → Type 0)
    (inner : (text points : List ℕ) → IsUtf8 text → Points text points → AreInnerCuts text points)
    (words pieces : List WordText) (measured : All IsMeasured words)
    (plain : All HasNoPenalty words) (are : AreSplit Points words pieces) where
  pub split-carries : All CarriesHyphen pieces
  split-carries =
      AreSplit-all CarriesHyphen (λ w start none. omega (arith, ap length none))
      (λ w start point after inside.
      grind (arith, length-slice w.word start point (omega (arith, inside))))
      Points inner words pieces measured plain are

  pub split-hyphens : All HasHyphenAtMost pieces
  split-hyphens =
      AreSplit-all HasHyphenAtMost (λ w start none. inl none)
      (λ w start point after inside. cut_penalty-cases w.word point)
      Points inner words pieces measured plain are
