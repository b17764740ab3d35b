-- The widest of words one after another, and at which widths all have room.
use Rattle.std.proofs.Common.{max}
use Rattle.textwrap_lines.proofs.Common.{closed_width, Settings, All, All-cons, All-head, All-nil}
use Rattle.textwrap_lines.proofs.Common.{All-tail, List, [], ap, arith, length, refl, ℕ, ◌++◌, ◌+◌}
use Rattle.textwrap_lines.proofs.Common.{◌∷◌, ◌≡◌, ◌≤◌, WordText, sizes_of, HasNoPenalty}
use Rattle.textwrap_lines.proofs.Common.{stand_from}
use Rattle.textwrap_plain.specs.Balance.{HasRoom, whole_pieces, wider_indent}
use Rattle.textwrap_plain.specs.Widest.{widest_of_words, widest_place}

widest-append : (ws vs : List WordText) → widest_of_words (ws ++ vs) ≡ max (widest_of_words ws) (widest_of_words vs)
widest-append [] vs = omega arith
widest-append (w ∷ ws) vs = omega (arith, widest-append ws vs)

-- with those of some more words
pub widest-more : (before : ℕ) (ws vs : List WordText)
    → max (max before (widest_of_words ws)) (widest_of_words vs) ≡ max before (widest_of_words (ws ++ vs))
widest-more before ws vs = omega (arith, widest-append ws vs)

-- the widest of words without penalties, by where they stand
pub places-widest : (at : ℕ) (ws : List WordText) → All HasNoPenalty ws
    → widest_place (stand_from at ws) ≡ widest_of_words ws
places-widest at [] none = refl
places-widest at (w ∷ ws) none =
    omega (
      arith,
      ap length (All-head HasNoPenalty w ws none),
      places-widest (at + length w.word + length w.whitespace) ws
          (All-tail HasNoPenalty w ws none),
    )

all-within : (indent width : ℕ) (ws : List WordText) → indent + widest_of_words ws ≤ width
    → All (λ w. indent + closed_width sizes_of (w ∷ []) ≤ width) ws
all-within indent width [] within = All-nil (λ w. indent + closed_width sizes_of (w ∷ []) ≤ width)
all-within indent width (w ∷ ws) within =
    All-cons (λ w. indent + closed_width sizes_of (w ∷ []) ≤ width) w ws (omega (arith, within))
    (all-within indent width ws (omega (arith, within)))

widest-within : (indent width : ℕ) (ws : List WordText) → indent ≤ width
    → All (λ w. indent + closed_width sizes_of (w ∷ []) ≤ width) ws → indent + widest_of_words ws ≤ width
widest-within indent width [] alone all = omega (arith, alone)
widest-within indent width (w ∷ ws) alone all =
    omega (
      arith,
      All-head (λ w. indent + closed_width sizes_of (w ∷ []) ≤ width) w ws all,
      widest-within indent width ws alone
          (All-tail (λ w. indent + closed_width sizes_of (w ∷ []) ≤ width) w ws all),
    )

module _ (settings : Settings) (words : List ℕ → List WordText) (points : List ℕ → List ℕ)
    (text : List ℕ) where
  -- the least width at which all pieces have room
  abbrev pub least_room : ℕ
  least_room = wider_indent settings + widest_of_words (whole_pieces settings words points text)

  pub room-from : (width : ℕ) → least_room ≤ width → HasRoom settings words points text width
  room-from width within = record {
    indent = omega (arith, within);
    pieces = all-within (wider_indent settings) width (whole_pieces settings words points text) within;
  }

  pub room-least : (width : ℕ) → HasRoom settings words points text width → least_room ≤ width
  room-least width room = widest-within (wider_indent settings) width
      (whole_pieces settings words points text) room.indent room.pieces
