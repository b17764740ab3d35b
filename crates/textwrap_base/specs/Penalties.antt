-- The penalties of optimal fit.
use Rattle.textwrap_base.specs.declared.penalties.Penalties.{Penalties}

-- the penalties of the original
abbrev pub default_penalties : Penalties
default_penalties = record {
  nline_penalty = 1000;
  overflow_penalty = 2500;
  short_last_line_fraction = 4;
  short_last_line_penalty = 25;
  hyphen_penalty = 25;
}
