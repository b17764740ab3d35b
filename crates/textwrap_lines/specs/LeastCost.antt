-- The lines of least cost of a paragraph.
use Rattle.std.specs.Prelude.{ℕ, ◌<◌, ◌≤◌, List, length, slice_index}
use Rattle.textwrap_base.specs.Queue.{AreAtMost, queue_limit}
use Rattle.textwrap_base.specs.declared.penalties.Penalties.{Penalties}

-- a text of so many bytes, the line widths and the penalties keep to what the search for least
-- costs takes: a text has at most as many columns as bytes
pub record SuitSearch (len : ℕ) (widths : List ℕ) (penalties : Penalties) : Type 0 where
  pub small_len : len ≤ queue_limit
  pub small_widths : (l : ℕ) → l < length widths → slice_index widths l ≤ queue_limit
  pub small_penalties : AreAtMost queue_limit penalties
