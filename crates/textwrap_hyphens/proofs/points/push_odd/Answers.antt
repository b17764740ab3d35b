use Rattle.textwrap_hyphens.proofs.Common.{ap, arith, get_or, get_or-map, length, length-map, map, slice_index}
use Rattle.textwrap_hyphens.proofs.{Common.◌∙◌, Common.◌≡◌, Parts.behind-next}
use Rattle.textwrap_patterns.specs.declared.letters.Letter.{Letter}
use Rattle.textwrap_hyphens.proofs.points.push_odd.Goals as goal

pub loop-place-preserved : goal.loop-place-preserved
loop-place-preserved g c =
    let run = c.args.run.now in
    let place = c.loop-place.place in
    let none : Letter = record { at = 0; ch = 0 } in
    let size = ap length c.requires.letters ∙ length-map run (λ (c : Letter). c.ch) in
    let here : slice_index (map (λ (c : Letter). c.at) run) place ≡ (get_or run place none).at =
    get_or-map (λ (c : Letter). c.at) run place none 0 (omega (arith, size)) in
    grind (arith, behind-next, here)
