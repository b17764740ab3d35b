use Rattle.textwrap_text.proofs.ClassNames.{◌++◌, char_indices_rest, IsIdeographAt, ideograph_places}
use Rattle.textwrap_text.proofs.ClassNames.{◌≡◌, ℕ, ◌*◌, ◌<◌, ◌≤◌, drop, length}
use Rattle.textwrap_text.proofs.Common.{char_indices_offset}
use Rattle.textwrap_unicode.proofs.cuts.push_ideographs.Given as goal

abbrev pub invariant-loop-after : goal.invariant-loop-after
invariant-loop-after l = record {
  place : char_indices_offset l.after-iterator ≡ 3 * l.count;
  left : drop (3 * l.count) l.rest ≡ char_indices_rest l.after-iterator;
  within : 3 * l.count ≤ length l.rest;
  ideographs : (k : ℕ) → k < l.count → IsIdeographAt l.rest (3 * k);
  cuts : l.cuts.items ≡ l.fn.cuts.items ++ ideograph_places l.at l.count;
}
