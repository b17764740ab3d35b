use Rattle.textwrap_text.proofs.line_feeds.line_feed_at.Given as goal
use Rattle.textwrap_text.proofs.Common.{slice_index, line_feed, length, ◌-◌, ◌<◌, ◌≢◌, ◌≤◌, ℕ}

abbrev pub invariant-loop-at : goal.invariant-loop-at
invariant-loop-at l = (l.at ≤ length l.text)
    × ((k : ℕ) → k < l.at → slice_index l.text k ≢ line_feed)

abbrev pub decreases-loop-at : goal.decreases-loop-at
decreases-loop-at l = length l.text - l.at
