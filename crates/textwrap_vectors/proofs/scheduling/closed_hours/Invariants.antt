use Rattle.std.proofs.Common.{◌≡◌, ◌-◌, ◌*◌, ◌^◌, ◌≤◌, take}
use Rattle.textwrap.specs.Division.{open_width}
use Rattle.textwrap_vectors.specs.Days.{task_sizes}
use Rattle.textwrap_vectors.proofs.scheduling.closed_hours.Given as goal

-- the hours of the tasks so far and of the sweeping after each, at most twice a `usize` for each
abbrev pub invariant-loop-task : goal.invariant-loop-task
invariant-loop-task l = record {
  hours : l.hours ≡ open_width task_sizes (take l.task-index l.others);
  bound : l.hours ≤ (2 ^ 65 - 2) * l.task-index;
}
