-- Words that are split where a function says: the pieces of a paragraph are those that are computed.
use Rattle.textwrap.proofs.Common.{Settings, List, [], arith, refl, rules, ℕ, ◌∷◌, ◌≡◌, WordText}
use Rattle.textwrap_layout.proofs.Common.{ArePieces, broken_pieces_of, AreSplit}
use Rattle.textwrap_plain.specs.Options.{split_by_points}

abbrev pub AreAt : (List ℕ → List ℕ) → List ℕ → List ℕ → Type 0
AreAt points word ps = ps ≡ points word

module _ (points : List ℕ → List ℕ) where
  split-is : (words pieces : List WordText) → AreSplit (AreAt points) words pieces
      → pieces ≡ split_by_points points words
  split-is [] pieces are = are
  split-is (w ∷ words) pieces (ps, rest, ps_are, rest_are, is) =
      grind (arith, split-is words rest rest_are)

  pub split-computed : (words : List WordText) → AreSplit (AreAt points) words (split_by_points points words)
  split-computed [] = refl
  split-computed (w ∷ words) = grind (arith, split-computed words)

  -- where the words of a line are those that a function names
  pub pieces-from : (Words : List ℕ → List WordText → Type 0) (words : List ℕ → List WordText)
      → ((line : List ℕ) (ws : List WordText) → Words line ws → ws ≡ words line)
      → (settings : Settings) (paragraph : List ℕ) (pieces : List WordText)
      → ArePieces settings Words (AreAt points) paragraph pieces
      → pieces ≡ broken_pieces_of settings (split_by_points points (words paragraph))
  pieces-from Words words named settings paragraph pieces (ws, split, ws_are, split_are, is) =
      search (rules, arith, split-is)
