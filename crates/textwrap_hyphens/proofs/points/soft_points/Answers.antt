use Rattle.textwrap_hyphens.proofs.Common.{get_or, All, arith, length, map, subst, sym, ℕ, ◌-◌, ◌<◌}
use Rattle.textwrap_hyphens.proofs.{Common.◌∙◌, InnerPoints.places-below, InnerPoints.places-filter}
use Rattle.textwrap_hyphens.specs.Points.{is_behind_soft, soft_places}
use Rattle.textwrap_patterns.specs.declared.letters.Letter.{Letter}
use Rattle.textwrap_hyphens.proofs.points.soft_points.Goals as goal

pub push_begins-requires : goal.push_begins-requires
push_begins-requires g c =
    let word = c.args.word.now in
    let letters = c.args.letters.now in
    let at = λ (c : Letter). c.at in
    let len = length letters in
    let inner = places-filter (λ place. is_behind_soft word (get_or (map at letters) place 0)) len 1 (len - 1) 0
    (omega arith) (λ some. omega (arith, some)) in
    subst (All (λ (place : ℕ). place < len)) (sym (c.deref.ensures.value ∙ c.in_ok-places.ensures))
    (places-below len 0 (soft_places word letters) inner)
