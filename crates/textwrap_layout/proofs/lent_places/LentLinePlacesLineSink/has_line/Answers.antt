use Rattle.textwrap_layout.proofs.lent_places.LentLinePlacesLineSink.has_line.Goals as goal
use Rattle.textwrap_text.proofs.Common.{length-map, nat_tests, arith}
use Rattle.textwrap_layout.proofs.Common.{reported_line, places_of}
use Rattle.textwrap_layout.proofs.Text.Sinks.{length-places_of}

pub returns : goal.returns
returns g c = λ first start held holds.
    let len = holds.placed.lines.len_is in
    grind (arith, nat_tests, length-map (places_of 0 held) reported_line, length-places_of 0 held)
