-- A text of which room that is lent holds the beginning.
use Rattle.std.specs.Prelude.{◌≡◌, ℕ, ◌^◌, ◌-◌, List, ◌++◌, take, drop, length, min}
use Rattle.textwrap_text.specs.declared.lent_text.LentText.{LentText}

-- what is in room that held `before` when as many of the items were written over it as have room
abbrev pub written_over : {X : Type 0} → List X → List X → List X
written_over before items = take (length before) items ++ drop (length items) before

-- a length as a number of the program, the greatest one if it is more
abbrev pub as_len : ℕ → ℕ
as_len n = min n (2 ^ 64 - 1)

-- this is the text, in room that held `before`
pub record IsLent (lent : LentText) (text before : List ℕ) : Type 0 where
  pub room : lent.room.now ≡ written_over before text
  pub len : lent.len ≡ as_len (length text)
