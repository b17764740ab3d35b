use Rattle.std.proofs.Common.{◌≢◌, ℕ, ◌<◌, get_or}
use Rattle.text_files.proofs.differences.line_len.Given as goal

-- no byte so far is a line feed
abbrev pub invariant-loop-at : goal.invariant-loop-at
invariant-loop-at l = (k : ℕ) → k < l.at → get_or l.text k 0 ≢ 10
