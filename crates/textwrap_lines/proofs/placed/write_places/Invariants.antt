use Rattle.textwrap_lines.proofs.placed.write_places.Given as goal
use Rattle.textwrap_lines.proofs.Common.{take}
use Rattle.textwrap_layout.specs.LentPlaces.{ArePlaced, KeepsPlaces}

-- the first places are written
abbrev pub invariant-loop-place : goal.invariant-loop-place
invariant-loop-place l = record {
  same : KeepsPlaces l.initial.placed l.placed;
  placed : ArePlaced l.placed (take l.place-index l.places) l.built l.fn.lines l.fn.room;
}
