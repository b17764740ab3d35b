-- The names of the definitions of this crate that most proofs cite. Declares nothing.
pub use Rattle.textwrap_base.specs.{Cost.fit_cost, Division.IsGreedy, Search.cost_from, Sizes.Sizes}
pub use Rattle.textwrap_base.specs.{declared.minima.line_costs.Measure.Measure, Errors.Overflowed}
pub use Rattle.textwrap_base.specs.{declared.minima.stretches.Stretch.Stretch, LineCosts.measured}
pub use Rattle.textwrap_base.specs.{Division.AllFit, Division.AllFull, Penalties.default_penalties}
pub use Rattle.textwrap_base.specs.{declared.penalties.Penalties.Penalties, Problem.problem_of}
pub use Rattle.textwrap_base.specs.Cost.{AreEqualFromSecond, division_cost, last_break_penalty}
pub use Rattle.textwrap_base.specs.Cost.{AreNoLater, IsLeastCost, PricedSizes, Problem, total_width}
pub use Rattle.textwrap_base.specs.Cost.{line_cost, priced_at, priced_by, problem_at, problem_by}
pub use Rattle.textwrap_base.specs.Division.{closed_width, Fits, IsDivision, line_width, open_width}
pub use Rattle.textwrap_base.specs.Minima.{Costs, counted, table_steps}
pub use Rattle.textwrap_base.specs.Queue.{binary_digits, IsQueueCase, NeverFalls, queue_limit}
pub use Rattle.textwrap_base.specs.Queue.{AreAtMost, AreConvex, SuitQueue}
pub use Rattle.textwrap_base.specs.Search.{AreMinima, IsBestFrom, IsBestStart, least_entry}
pub use Rattle.textwrap_base.specs.Stretches.{AreStretches, HasEnd, HaveBest, IsPriced, stretch_at}
pub use Rattle.textwrap_base.specs.Table.{entry_at, fragment_costs, fragments_table, TableOverflows}
pub use Rattle.textwrap_base.specs.Table.{first_entry, FollowStarts, IsBestBelow, IsLeastBelow}
pub use Rattle.textwrap_base.specs.Table.{entry_from, IsByTable, line_costs, minimum_of, table}
pub use Rattle.textwrap_base.specs.declared.minima.{Minimum.Minimum, table.Entry.Entry}
