use Rattle.textwrap_text.proofs.Common.{drop, length, ◌++◌, ◌≡◌}
use Rattle.textwrap_patterns.proofs.WrittenPatterns.{levels_left}
use Rattle.textwrap_patterns.specs.Written.{letters_written, levels_written}
use Rattle.textwrap_patterns.proofs.written.pattern_of.Given as goal

-- what was read, and what is left, are all
abbrev pub invariant-loop-ch : goal.invariant-loop-ch
invariant-loop-ch g l = record {
  letters : l.letters.items ++ letters_written (drop l.ch-index l.characters)
      ≡ letters_written l.characters;
  levels : l.levels.items ++ levels_left l.level (drop l.ch-index l.characters)
      ≡ levels_written l.characters;
  each : length l.levels.items ≡ length l.letters.items;
}
