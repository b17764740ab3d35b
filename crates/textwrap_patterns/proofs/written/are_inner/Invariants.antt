use Rattle.std.proofs.Common.{◌↔◌, drop}
use Rattle.textwrap_patterns.specs.Places.{AreInnerPlaces, IsNextPlace}
use Rattle.textwrap_words.proofs.Common.{AreNext}
use Rattle.textwrap_patterns.proofs.written.are_inner.Given as goal

-- all are inner just where those that are left are, behind the last
abbrev pub invariant-loop-place : goal.invariant-loop-place
invariant-loop-place l =
    AreNext (IsNextPlace l.len) (drop l.place-index l.places) l.last ↔ AreInnerPlaces l.len l.places
