-- The measures of fragments: their widths and break penalties, and what stands before them on a
-- line without end.
use Rattle.std.specs.Prelude.{◌+◌, List}
use Rattle.textwrap_base.specs.Sizes.{Sizes}
use Rattle.textwrap_base.specs.Cost.{PricedSizes}
use Rattle.textwrap_base.specs.PrefixSums.{HavePrefixSums}
use Rattle.textwrap_base.specs.declared.minima.line_costs.Measure.{Measure}

abbrev pub measured : Measure → PricedSizes
measured m =
    let s : Sizes = record { width = m.width; whitespace = m.whitespace; penalty = m.penalty } in
    record { sizes = s; break_penalty = m.break_penalty }

-- each measure knows the open width of those before it, and all widths together keep to 128 bits
abbrev pub AreMeasures : List Measure → Type 0
AreMeasures measures =
    HavePrefixSums measured (λ m. m.before) (λ m. m.before + m.width + m.penalty) measures
