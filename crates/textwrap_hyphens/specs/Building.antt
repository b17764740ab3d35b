-- Entries of a trie, as what they are made of.
use Rattle.std.specs.Prelude.{map}
use Rattle.textwrap_hyphens.specs.declared.building.{Entries.Entries, Minima.Minima}
use Rattle.textwrap_patterns.specs.Listed.{ExceptionText, exception_text, Listed, PatternText}
use Rattle.textwrap_patterns.specs.declared.entries.TrieEntry.{TrieEntry}

abbrev pub pattern_of : {A : Type 0} → TrieEntry A → PatternText
pattern_of entry = record { letters = entry.key.items; levels = entry.numbers.items }

abbrev pub exception_of : {A : Type 0} → TrieEntry A → ExceptionText
exception_of entry = exception_text entry.key.items entry.numbers.items

abbrev pub entries_view : {A : Type 0} → Entries A → Minima → Listed
entries_view entries minima = record {
  joints = map pattern_of entries.joints.items;
  patterns = map pattern_of entries.patterns.items;
  exceptions = map exception_of entries.exceptions.items;
  left = minima.left;
  right = minima.right;
  compound_left = minima.compound_left;
  compound_right = minima.compound_right;
  changed = entries.changed;
}
