-- A text has one list of lines, where functions name the words of a line and the points of a word.
use Rattle.textwrap.proofs.Common.{greedy_unique, words_unique}
use Rattle.textwrap_base.proofs.Cost.Results.{chosen_one}
use Rattle.textwrap_hyphens.specs.Hyphenation.{Hyphenation}
use Rattle.textwrap_lines.proofs.Common.{Settings, first_width, later_width, IsDividedInto}
use Rattle.textwrap_lines.proofs.Common.{widths_of, Bool, List, arith, sym, ℕ, ◌∙◌, ◌≡◌, Algorithm}
use Rattle.textwrap_lines.proofs.Common.{AreWordsOf, ByFirstFit, ByOptimalFit, IsDividedBy}
use Rattle.textwrap_lines.proofs.{Common.{WordText, sizes_of, words_of}, PlacedPieces.two-equal}
use Rattle.textwrap_plain.proofs.Split.{AreAt, pieces-from}
use Rattle.textwrap_plain.specs.{Hyphenated.{split_points, DividesAtPoints}, Options.DividesFrom}

division_one-by : (Words : List ℕ → List WordText → Type 0) (words : List ℕ → List WordText)
    → ((line : List ℕ) (ws : List WordText) → Words line ws → ws ≡ words line)
    → (points : List ℕ → List ℕ) (settings : Settings) (algorithm : Algorithm) (is_later : Bool)
    (paragraph : List ℕ) (division other : List (List WordText))
    → let Divides : Bool → List ℕ → List (List WordText) → Type 0 =
    IsDividedInto settings Words (AreAt points) (IsDividedBy algorithm sizes_of) in
    Divides is_later paragraph division → Divides is_later paragraph other → division ≡ other
division_one-by Words words named points settings algorithm is_later paragraph division other
    (pieces, are, divided) (others, others_are, others_divided) =
    let same = pieces-from points Words words named settings paragraph pieces are
    ∙ sym (pieces-from points Words words named settings paragraph others others_are) in
    by algorithm divided (rw (← same) at others_divided)
  where
    by : (algorithm : Algorithm)
        → IsDividedBy algorithm sizes_of (widths_of settings is_later) pieces division
        → IsDividedBy algorithm sizes_of (widths_of settings is_later) pieces other
        → division ≡ other
    by ByFirstFit greedy other_greedy = grind (arith, greedy_unique)
    by (ByOptimalFit penalties) least other_least =
        let equal = two-equal (first_width settings is_later) (later_width settings) in
        chosen_one _ division other (least.chosen equal) (other_least.chosen equal)

pub division_one-from : (words : List ℕ → List WordText) (points : List ℕ → List ℕ)
    (settings : Settings) (algorithm : Algorithm) (is_later : Bool) (paragraph : List ℕ)
    (division other : List (List WordText))
    → DividesFrom words points algorithm settings is_later paragraph division
    → DividesFrom words points algorithm settings is_later paragraph other → division ≡ other
division_one-from words = division_one-by (λ line ws. ws ≡ words line) words (λ line ws is. is)

pub division_one : (h : Hyphenation) (settings : Settings) (algorithm : Algorithm)
    (is_later : Bool) (paragraph : List ℕ) (division other : List (List WordText))
    → DividesAtPoints h algorithm settings is_later paragraph division
    → DividesAtPoints h algorithm settings is_later paragraph other → division ≡ other
division_one h =
    division_one-by AreWordsOf words_of (λ line words are. (words_unique line words).0 are)
    (split_points h)
