-- The days that tasks are assigned to.
use Rattle.std.specs.Prelude.{◌≡◌, ℕ, List, [], ◌∷◌, map}
use Rattle.textwrap.specs.Division.{closed_width, IsGreedy}
use Rattle.textwrap.specs.Sizes.{Sizes}
use Rattle.textwrap_vectors.specs.declared.scheduling.Day.{Day}
use Rattle.textwrap_vectors.specs.declared.scheduling.Task.{Task}

-- a task as a fragment, in hours
abbrev pub task_sizes : Task → Sizes
task_sizes task = record { width = task.hours; whitespace = task.sweep; penalty = task.cleanup }

-- the names of tasks, in order
abbrev pub names_of : List Task → List (List ℕ)
names_of tasks = map (λ task. task.name.now) tasks

-- a day as a value: its hours, and the names of its tasks
pub record PlannedDay : Type 0 where
  pub hours : ℕ
  pub names : List (List ℕ)

abbrev pub day_view : {Z : Type 0} → Day Z → PlannedDay
day_view day = record { hours = day.hours; names = map (λ name. name.now) day.names.items }

-- the day of a line of tasks
abbrev pub day_of : List Task → PlannedDay
day_of line = record { hours = closed_width task_sizes line; names = names_of line }

-- the days are those of the lines of first fit
abbrev pub AreDays : ℕ → List Task → List PlannedDay → Type 0
AreDays day_length tasks days =
    (lines : List (List Task)) × IsGreedy task_sizes (day_length ∷ []) tasks lines
    × (days ≡ map day_of lines)
