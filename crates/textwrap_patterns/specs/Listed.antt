-- What is listed in a dictionary of hyphenation: patterns, and words with their hyphens as exceptions.
use Rattle.std.specs.Prelude.{ℕ, List, []}
use Rattle.textwrap_patterns.specs.declared.patterns.{Exception.Exception, Pattern.Pattern}

-- letters, and a level for the place before each of them and for the one behind the last
pub record PatternText : Type 0 where
  pub letters : List ℕ
  pub levels : List ℕ

abbrev pub pattern_view : {A : Type 0} → Pattern A → PatternText
pattern_view pattern =
    record { letters = pattern.letters.items; levels = pattern.levels.items }

-- the letters of a word, and the places of its hyphens, each behind so many letters
pub record ExceptionText : Type 0 where
  pub letters : List ℕ
  pub places : List ℕ

abbrev pub exception_text : List ℕ → List ℕ → ExceptionText
exception_text letters places = record { letters = letters; places = places }

abbrev pub exception_view : {A : Type 0} → Exception A → ExceptionText
exception_view exception = exception_text exception.letters.items exception.places.items

-- what is listed in a dictionary: patterns of joints, which say where compounds are joined, patterns of
-- their parts, exceptions, how many letters stay on the sides of a hyphen, in a word and between it and a
-- joint, and at how many patterns letters would change
pub record Listed : Type 0 where
  pub joints : List PatternText
  pub patterns : List PatternText
  pub exceptions : List ExceptionText
  pub left : ℕ
  pub right : ℕ
  pub compound_left : ℕ
  pub compound_right : ℕ
  pub changed : ℕ

-- what is listed where nothing is said of compounds
abbrev pub listed : List PatternText → List ExceptionText → ℕ → ℕ → Listed
listed patterns exceptions left right = record {
  joints = [];
  patterns = patterns;
  exceptions = exceptions;
  left = left;
  right = right;
  compound_left = 0;
  compound_right = 0;
  changed = 0;
}
