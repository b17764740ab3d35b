use Rattle.std.specs.Str.Iter.{char_indices_offset}
use Rattle.textwrap_text.proofs.ClassNames.{char_indices_rest, true, ◌≡◌}
use Rattle.textwrap_unicode.proofs.{CutLemmas.IsReading, WordVerdicts.in_word}
use Rattle.textwrap_unicode.proofs.breaks.LineBreaksIterator.next.Given as goal

abbrev pub invariant-loop-offset : goal.invariant-loop-offset
invariant-loop-offset l =
    IsReading l.numbers l.rest l.start l.initial.before (char_indices_offset l.offset-iterator)
    (char_indices_rest l.offset-iterator) l.before
    × (l.self-inside ≡ l.initial.self-inside)
    × (l.is_in_word ≡ true → l.before ≡ in_word)
