use Rattle.std.specs.Char.{is_whitespace}
use Rattle.textwrap_text.proofs.Common.{position_or_len, slice_split, ◌≡◌, ◌++◌, length, map}
use Rattle.textwrap_dictionaries.proofs.parsing.words_of.Given as goal

-- the words so far, and those of what is left, are all
abbrev pub invariant-loop-len : goal.invariant-loop-len
invariant-loop-len g l = record {
  words : map (λ word. word.now) l.words.items ++ slice_split is_whitespace l.left
      ≡ slice_split is_whitespace l.text;
  len : l.len ≡ position_or_len is_whitespace l.left;
}

abbrev pub decreases-loop-len : goal.decreases-loop-len
decreases-loop-len g l = length l.left
