use Rattle.textwrap_hyphens.proofs.Common.{arith, ap, get_or, length, length-map, ◌∙◌}
use Rattle.textwrap_hyphens.proofs.InnerPoints.{places-below}
use Rattle.textwrap_patterns.specs.declared.letters.Letter.{Letter}
use Rattle.textwrap_hyphens.proofs.points.push_points.Goals as goal

pub push_begins-requires : goal.push_begins-requires
push_begins-requires g c = λ k d within.
    let run = c.args.run.now in
    let same = c.deref-2.ensures.value in
    let below = places-below _ _ _ c.in_ok-places.ensures.inner k d (omega
    (arith, within, ap length same)) in
    let letters = ap length (c.deref.ensures.value ∙ c.in_ok-letters.ensures)
    ∙ length-map run (λ (c : Letter). c.ch) in
    omega (arith, below, letters, ap (λ l. get_or l k d) same)
