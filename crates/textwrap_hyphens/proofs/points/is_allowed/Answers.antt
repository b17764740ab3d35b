use Rattle.std.proofs.lemmas.List.{take_rest}
use Rattle.textwrap_hyphens.proofs.Common.{arith, get_or_default, refl, ◌-◌, ◌∙◌}
use Rattle.textwrap_hyphens.proofs.points.is_allowed.Goals as goal

pub returns : goal.returns
returns c =
    let letters = c.args.letters.now in
    let place = c.args.place in
    let before = c.index-letters-place.is
    ∙ get_or_default letters (place - 1) c.index-letters-place.result 0 (omega arith) in
    let behind = c.index-letters-place-2.is
    ∙ get_or_default letters place c.index-letters-place-2.result 0 c.requires.end in
    rw (before, c.counts.ensures, behind, c.has_letters.ensures, c.has_letters-2.ensures, c.left.ensures, c.right.ensures, take_rest)
    refl
