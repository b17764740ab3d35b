use Rattle.std.proofs.Common.{◌≡◌, ℕ, ◌<◌, ◌≤◌, false, map}
use Rattle.text_files.specs.Differences.{is_change, sign_at, signed_view}
use Rattle.text_files.proofs.differences.is_near.Given as goal

-- no line so far is changed
abbrev pub invariant-loop-place : goal.invariant-loop-place
invariant-loop-place l =
    (k : ℕ) → k < l.place → l.first ≤ k → is_change (sign_at (map signed_view l.lines) k) ≡ false
