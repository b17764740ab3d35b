use Rattle.std.proofs.Common.{◌%◌, ◌==◌, ap, arith, get_or, length, ◌+◌, ◌∙◌}
use Rattle.textwrap_hyphens.{proofs.Parts.levels-length, proofs.Parts.odd-is, specs.Table.levels_by}
use Rattle.textwrap_text.proofs.Lists.Elements.{points-more}
use Rattle.textwrap_hyphens.proofs.levels.odd_places.Goals as goal

pub is_odd-requires : goal.is_odd-requires
is_odd-requires g c =
    let size = levels-length (levels_by c.args.patterns.now) c.args.letters.now _
    c.in_ok-levels.ensures.levels in
    omega (arith, ap length c.deref.ensures.value, size)

pub loop-place-preserved : goal.loop-place-preserved
loop-place-preserved g c =
    let place = c.loop-place.place in
    let test = c.is_odd.ensures
    ∙ ap (λ l. get_or l (place + 1) 0 % 2 == 1) c.deref.ensures.value
    ∙ odd-is (levels_by c.args.patterns.now) c.args.letters.now _ place
    c.in_ok-levels.ensures.levels (omega arith) in
    grind (arith, points-more, test)
