use Rattle.textwrap_text.proofs.ClassNames.{slice_index, length, ◌++◌, ◌-◌, ◌<◌, ◌≡◌, ◌≤◌, ℕ}
use Rattle.textwrap_unicode.specs.WordStarts.{is_behind_blank, is_behind_sign, word_starts}
use Rattle.textwrap_unicode.specs.WordStarts.{IsWordByte}
use Rattle.textwrap_unicode.proofs.cuts.push_words.Given as goal

abbrev pub invariant-loop-len : goal.invariant-loop-len
invariant-loop-len l = record {
  within : l.len ≤ length l.rest;
  words : (k : ℕ) → k < l.len → IsWordByte (slice_index l.rest k);
  blank : l.is_behind_blank ≡ is_behind_blank l.rest l.len;
  sign : l.is_behind_sign ≡ is_behind_sign l.rest l.len;
  cuts : l.cuts.items ≡ l.fn.cuts.items ++ word_starts l.at l.rest l.len;
}

abbrev pub decreases-loop-len : goal.decreases-loop-len
decreases-loop-len l = length l.rest - l.len
