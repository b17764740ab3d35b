-- What stands in a dictionary: starts of lines, exceptions that are written with hyphens, and marks.
use Rattle.std.proofs.Common.{Option, None, Some, IfSome, IsSome, ◌↔◌, ◌&&◌, nat_lt, option_map}
use Rattle.std.proofs.Common.{if◌then◌else◌, ◌≢◌, Err, IsErrAnd, Ok, Result, drop_at, ltb-true}
use Rattle.std.proofs.Common.{lt-ltb, List, ℕ, ◌≡◌, ◌∷◌, [], ◌<◌, drop, length, true, false, refl}
use Rattle.std.proofs.Common.{arith, Bool, suc, ◌++◌}
use Rattle.textwrap_dictionaries.specs.Entries.{hyphens_past, is_hyphen_sign, letters_between}
use Rattle.textwrap_dictionaries.specs.Parsing.{after_mark, and_then, Outcome, Reads}
use Rattle.textwrap_dictionaries.specs.declared.errors.ParseError.{ParseError}
use Rattle.textwrap_dictionaries.specs.declared.errors.ParseError.TheVariants.{Line, Memory}
use Rattle.textwrap_patterns.specs.{Letters.folded, Listed.exception_text, Listed.exception_view}
use Rattle.textwrap_patterns.specs.{Listed.Listed, Places.are_places, Places.AreInnerPlaces}
use Rattle.textwrap_patterns.specs.{Places.IsNextPlace, declared.patterns.Exception.Exception}
use Rattle.textwrap_text.proofs.Common.{false_from_ne_true, false≢true}
use Rattle.textwrap_text.proofs.Lists.Parts.{starts_with-false, starts_with-true}
use Rattle.textwrap_words.proofs.Common.{AreNext}

-- the test of places says whether they are inner ones
pub places-are : (len last : ℕ) (places : List ℕ) → AreNext (IsNextPlace len) places last
    → are_places len last places ≡ true
places-are len last [] inner = refl
places-are len last (place ∷ places) inner = grind (arith, places-are len place places inner.1, lt-ltb)

are-next : (len last place : ℕ) (places : List ℕ) (a b : Bool) → nat_lt last place ≡ a
    → nat_lt place len ≡ b
    → (are_places len place places ≡ true → AreNext (IsNextPlace len) places place)
    → ((a && b) && are_places len place places) ≡ true
    → AreNext (IsNextPlace len) (place ∷ places) last
are-next len last place places false b above below rest is = absurd (false≢true is)
are-next len last place places true false above below rest is = absurd (false≢true is)
are-next len last place places true true above below rest is = grind (arith, ltb-true)

pub are-places : (len last : ℕ) (places : List ℕ) → are_places len last places ≡ true
    → AreNext (IsNextPlace len) places last
are-places len last [] is = tt
are-places len last (place ∷ places) is = grind (arith, are-places len place places, are-next)

pub hyphen-here : (n c : ℕ) (cs : List ℕ) → is_hyphen_sign c ≡ true
    → (hyphens_past n (c ∷ cs) ≡ n ∷ hyphens_past n cs) × (letters_between (c ∷ cs)
    ≡ letters_between cs)
hyphen-here n c cs is = rw is (refl, refl)

pub letter-here : (n c : ℕ) (cs : List ℕ) → is_hyphen_sign c ≡ false
    → (hyphens_past n (c ∷ cs) ≡ hyphens_past (suc n) cs) × (letters_between (c ∷ cs)
    ≡ folded c ∷ letters_between cs)
letter-here n c cs is = rw is (refl, refl)

-- what an exception is made of letters and places says whether they are ones of an exception
pub made-written : {A : Type 0} (letters places : List ℕ) (r : Option (Exception A))
    → IfSome r (λ made. exception_view made ≡ exception_text letters places)
    → (IsSome r ↔ AreInnerPlaces (length letters) places)
    → option_map exception_view r
    ≡ (if are_places (length letters) 0 places then Some (exception_text letters places) else None)
made-written letters places (Some made) is inner = grind (arith, places-are)
made-written letters places None is inner = grind (arith, false_from_ne_true, are-places)

-- ---- marks

pub mark-here : (mark line text : List ℕ) → 0 < length line → line ≡ mark ++ text
    → after_mark mark line ≡ Some text
mark-here mark [] text some is = absurd (omega arith)
mark-here mark (c ∷ cs) text some is = grind (arith, starts_with-true, drop_at)

pub mark-later : (mark line : List ℕ) → 0 < length line
    → ((text : List ℕ) → line ≢ mark ++ text) → after_mark mark line ≡ after_mark mark (drop 1 line)
mark-later mark [] some not_here = absurd (omega arith)
mark-later mark (c ∷ cs) some not_here = rw (starts_with-false mark (c ∷ cs) not_here) refl

pub then-read : (o : Outcome) → and_then o (λ k. Ok k) ≡ o
then-read (Ok k) = refl
then-read (Err e) = refl

-- where a line is refused, the whole text is
pub lines-refused : {T U : Type 0} (v : T → Listed) (w : U → Listed) (first whole : Outcome)
    (next : Listed → Outcome) (e : ParseError) (r : Result U ParseError)
    → and_then first next ≡ whole → Reads first v (Err e) → IsErrAnd r (λ f. f ≡ e)
    → Reads whole w r
lines-refused v w first whole next e (Ok x) all said is = absurd is
lines-refused v w first whole next e (Err (Memory f)) all said is = tt
lines-refused v w first whole next e (Err (Line n fault)) all said is = grind arith
