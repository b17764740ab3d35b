-- What is read of a file says what its bytes do.
use Rattle.filter_programs.specs.HyphenateDictionary.{IsDictionary, ReadsDictionary}
use Rattle.filter_programs.specs.declared.hyphenate.dictionary.Failure.{Failure}
use Rattle.filter_programs.specs.declared.hyphenate.dictionary.Failure.TheVariants.{Unread, Wrong}
use Rattle.std.proofs.Common.{List, ℕ, Err, Ok, Option, Result}
use Rattle.text_filters.specs.declared.faults.Fault.TheVariants.{Memory, NotUtf8, Output, Read}
use Rattle.text_filters.specs.declared.faults.Fault.TheVariants.{Write}
use Rattle.textwrap_hyphens.specs.declared.dictionary.Patterns.{Patterns}
use Rattle.textwrap_program.specs.Filling.{ReadsAll}

-- bytes that were read to the end of a file, and say this or are none
pub reads : (Z : Type 0) (unread left : Option (List ℕ)) (bytes : List ℕ)
    (r : Result (Patterns Z) Failure) → ReadsAll unread left bytes → IsDictionary bytes r
    → ReadsDictionary unread r
reads Z unread left bytes (Ok patterns) all is = (bytes, left, all, is)
reads Z unread left bytes (Err (Wrong line fault)) all is = (bytes, left, all, is)
reads Z unread left bytes (Err (Unread Memory)) all is = tt
reads Z unread left bytes (Err (Unread (Read reason))) all is = tt
reads Z unread left bytes (Err (Unread (NotUtf8 valid))) all is = absurd is
reads Z unread left bytes (Err (Unread (Write reason))) all is = absurd is
reads Z unread left bytes (Err (Unread (Output reason))) all is = absurd is
