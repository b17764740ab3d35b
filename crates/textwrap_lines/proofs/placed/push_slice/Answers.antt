use Rattle.textwrap_lines.proofs.placed.push_slice.Goals as goal
use Rattle.textwrap_lines.proofs.Common.{[], arith, cut_line, on_ok_weaker, subst, ◌+◌, ◌∷◌, ◌≡◌}
use Rattle.textwrap_layout.proofs.Common.{Slice}
use Rattle.textwrap_layout.proofs.Text.Sinks.{HasPlaces-pushed}
use Rattle.textwrap_layout.specs.Places.{HasPlacesMore}

pub returns : goal.returns
returns g c =
    let start = c.args.start in
    let same : start + 0 ≡ start = omega arith in
    on_ok_weaker c.push_line.result (λ took.
    subst (λ at. HasPlacesMore c.args.lines.now c.push_line.new.self
    (cut_line at (Slice c.args.slice.now) ∷ [])) same
    (HasPlaces-pushed c.args.lines.now c.begin_paragraph.new.self c.push_line.new.self start _
    c.begin_paragraph.ensures.held took)) c.push_line.ensures.pushed
