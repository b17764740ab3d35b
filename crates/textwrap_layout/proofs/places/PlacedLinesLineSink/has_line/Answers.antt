use Rattle.textwrap_layout.proofs.places.PlacedLinesLineSink.has_line.Goals as goal
use Rattle.textwrap_text.proofs.Common.{length, nat_lt, arith, not, ◌∙◌, ap}
use Rattle.textwrap_text.proofs.Numbers.{not_empty}
use Rattle.textwrap_layout.proofs.Text.Sinks.{length-places_of}

pub returns : goal.returns
returns g c = λ first start held holds.
    let places = c.args.self.now.places in
    ap not c.is_empty.ensures ∙ not_empty places.len (length places.items) (omega arith)
    ∙ ap (nat_lt 0) (ap length holds.places ∙ length-places_of 0 held)
