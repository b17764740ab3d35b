-- Lists of which lent room holds the beginning.
use Rattle.std.specs.Prelude.{◌≡◌, ℕ, List, length}
use Rattle.textwrap_text.specs.LentText.{as_len, written_over}

-- as many of these items as have room were written over what the room held before, and they are so many
pub record HasWritten {X : Type 0} (room : List X) (len : ℕ) (items before : List X) : Type 0 where
  pub room_is : room ≡ written_over before items
  pub len_is : len ≡ as_len (length items)
