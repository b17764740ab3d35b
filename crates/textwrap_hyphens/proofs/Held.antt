-- What the numbers of a dictionary say.
use Rattle.std.proofs.Common.{IfSome}
use Rattle.textwrap_dictionaries.proofs.Said.{are-places, places-are}
use Rattle.textwrap_hyphens.proofs.InnerPoints.{AreInner}
use Rattle.textwrap_hyphens.specs.{InnerPlaces.inner_places, Seal.from_end, Table.held}
use Rattle.textwrap_hyphens.specs.declared.table.PatternTable.{PatternTable}
use Rattle.textwrap_patterns.specs.{Places.AreInnerPlaces, Places.are_places, Trie.numbers_for}
use Rattle.textwrap_text.proofs.Common.{None, Option, Some, ◌↔◌, false_from_ne_true, Bool, List}
use Rattle.textwrap_text.proofs.Common.{cond, false, false≢true, length, refl, sym, true, ℕ, ◌≡◌}

inner-if : (len : ℕ) (places : List ℕ) (b : Bool) → are_places len 0 places ≡ b
    → IfSome (cond b (Some places) None) (AreInnerPlaces len)
inner-if len places true is = are-places len 0 places is
inner-if len places false is = tt

inner-some : (len : ℕ) (found : Option (List ℕ))
    → IfSome (inner_places len found) (AreInnerPlaces len)
inner-some len None = tt
inner-some len (Some places) = inner-if len places (are_places len 0 places) refl

-- exceptions of a table have places inside their words
pub held-inner : (table : PatternTable) → AreInner (held table).exception
held-inner table = λ letters.
    inner-some (length letters)
    (numbers_for letters table.words.now (from_end 6 table.words.now))

-- a test says whether places are inner ones just as the definition does
pub inner-is : (len : ℕ) (places : List ℕ) (r : Bool) → (r ≡ true) ↔ AreInnerPlaces len places
    → r ≡ are_places len 0 places
inner-is len places true is = sym (places-are len 0 places (is.0 refl))
inner-is len places false is = sym (false_from_ne_true (are_places len 0 places) (λ are.
    absurd (false≢true (is.1 (are-places len 0 places are)))))
