use Rattle.textwrap_more_calls.proofs.text_steps.join_lines.Given as goal
use Rattle.textwrap_calls.proofs.{Common.{join_with, map, take, ◌≡◌}, RoomLemmas.bytes_at}

-- the lines so far are joined
abbrev pub invariant-loop-i : goal.invariant-loop-i
invariant-loop-i l = l.joined.items ≡ join_with l.ending
    (map (bytes_at l.text l.placed.built.items) (take l.i l.placed.places.items))
