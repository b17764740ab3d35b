use Rattle.textwrap_hyphens.proofs.Common.{get_or-map, ap, arith, get_or, map, slice_index, sym}
use Rattle.textwrap_hyphens.{proofs.Common.◌∙◌, proofs.Common.◌≡◌, specs.Points.is_behind_soft}
use Rattle.textwrap_patterns.specs.declared.letters.Letter.{Letter}
use Rattle.textwrap_text.proofs.Lists.Elements.{points-more}
use Rattle.textwrap_hyphens.proofs.points.soft_places.Goals as goal

pub loop-place-preserved : goal.loop-place-preserved
loop-place-preserved g c =
    let word = c.args.word.now in
    let letters = c.args.letters.now in
    let place = c.loop-place.place in
    let none : Letter = record { at = 0; ch = 0 } in
    let at = λ (c : Letter). c.at in
    let here : slice_index (map at letters) place ≡ (get_or letters place none).at =
    get_or-map at letters place none 0 (omega arith) in
    let test = c.is_behind_soft.ensures ∙ ap (is_behind_soft word) (sym here) in
    grind (arith, points-more, test)
