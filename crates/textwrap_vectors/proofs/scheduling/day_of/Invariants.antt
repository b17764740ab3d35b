use Rattle.std.proofs.Common.{◌≡◌, map, take}
use Rattle.textwrap_vectors.specs.Days.{names_of}
use Rattle.textwrap_vectors.proofs.scheduling.day_of.Given as goal

-- the names of the tasks so far
abbrev pub invariant-loop-task : goal.invariant-loop-task
invariant-loop-task g l = map (λ name. name.now) l.names.items ≡ names_of (take l.task-index l.line)
