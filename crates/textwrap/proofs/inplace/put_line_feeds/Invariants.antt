use Rattle.textwrap.proofs.inplace.put_line_feeds.Given as goal
use Rattle.textwrap.proofs.Common.{with_line_feeds, length, drop, ◌≡◌}

-- line feeds in the places left make of the bytes what they are to become
abbrev pub invariant-loop-place : goal.invariant-loop-place
invariant-loop-place l = (length l.bytes ≡ length l.fn.bytes)
    × (with_line_feeds (drop l.place-index l.places) l.bytes ≡ with_line_feeds l.places l.fn.bytes)
