-- What is left of a text: a slice of it, or a text of its own.
use Rattle.std.specs.Prelude.{ℕ, Bool, true, false, List}
use Rattle.std.specs.String.{string_bytes}
use Rattle.std.specs.declared.borrow.CowStr.{CowStr}
use Rattle.std.specs.declared.borrow.CowStr.TheVariants.{Borrowed, Owned}

abbrev pub cow_bytes : {Z : Type 0} → CowStr Z → List ℕ
cow_bytes (Borrowed slice) = slice.now
cow_bytes (Owned text) = string_bytes text

abbrev pub is_borrowed : {Z : Type 0} → CowStr Z → Bool
is_borrowed (Borrowed slice) = true
is_borrowed (Owned text) = false
