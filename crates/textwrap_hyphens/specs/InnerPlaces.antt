-- The places of an exception, as a dictionary has them.
use Rattle.std.specs.Prelude.{ℕ, List, Option, None, Some, if◌then◌else◌}
use Rattle.textwrap_patterns.specs.Places.{are_places}

-- places, if they increase inside a word of so many letters
abbrev pub inner_places : ℕ → Option (List ℕ) → Option (List ℕ)
inner_places len None = None
inner_places len (Some places) = if are_places len 0 places then Some places else None
