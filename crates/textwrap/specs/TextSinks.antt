-- What takes a text, part after part.
use Rattle.std.specs.Prelude.{◌≡◌, ℕ, List}
use Rattle.textwrap_text.specs.LentText.{IsLent}
use Rattle.textwrap_text.specs.declared.lent_text.LentText.{LentText}

-- the room that it began with was written over by this text
pub record HoldsLentText (first now : LentText) (text : List ℕ) : Type 0 where
  pub same : now.room.ghost_name ≡ first.room.ghost_name
  pub lent : IsLent now text first.room.now
