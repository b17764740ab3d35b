use Rattle.textwrap_text.proofs.Common.{drop, length, ◌++◌, ◌≡◌}
use Rattle.textwrap_dictionaries.specs.Entries.{hyphens_past, letters_between}
use Rattle.textwrap_dictionaries.proofs.entries.exception_of.Given as goal

-- what was read, and what is left, are all
abbrev pub invariant-loop-ch : goal.invariant-loop-ch
invariant-loop-ch g l = record {
  letters : l.letters.items ++ letters_between (drop l.ch-index l.word) ≡ letters_between l.word;
  places : l.places.items ++ hyphens_past (length l.letters.items) (drop l.ch-index l.word)
      ≡ hyphens_past 0 l.word;
}
