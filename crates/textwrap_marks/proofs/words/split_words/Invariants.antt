use Rattle.textwrap_marks.proofs.words.split_words.Given as goal
use Rattle.textwrap_marks.proofs.{Common.length, Common.◌≤◌, WordCuts.IsBehindWords}
use denote.Shadow.{shadow}
use denote.Text.{Utf8}

abbrev pub invariant-loop-len : goal.invariant-loop-len
invariant-loop-len l = shadow (Utf8 l.rest) × (l.len ≤ l.count) × IsBehindWords l.text l.len l.rest

abbrev pub decreases-loop-len : goal.decreases-loop-len
decreases-loop-len l = length l.rest
