use Rattle.std.proofs.Common.{◌&&◌, ap, arith, drop, length-drop, length-take, sym, ℕ, ◌-◌, ◌∙◌}
use Rattle.textwrap_hyphens.proofs.Parts.{levels-length, odd-is}
use Rattle.textwrap_hyphens.specs.{Hyphenation.is_far, Hyphenation.part, Table.held}
use Rattle.textwrap_hyphens.proofs.points.is_place.Goals as goal

pub is_odd-requires : goal.is_odd-requires
is_odd-requires c =
    let letters = c.args.letters.now in
    let from = c.args.from in
    let to = c.args.to in
    let size = levels-length (held c.args.patterns.now).level_from (part from to letters) _
    c.requires.levels in
    omega (arith, length-take (to - from) (drop from letters), length-drop from letters)

pub returns-then-is_odd : goal.returns-then-is_odd
returns-then-is_odd c =
    let h = held c.args.patterns.now in
    let letters = c.args.letters.now in
    let from = c.args.from in
    let to = c.args.to in
    let place = c.args.place in
    let odd = odd-is h.level_from (part from to letters) c.args.levels.now (place - from)
    c.requires.levels (omega (arith, length-take {A = ℕ}, length-drop {A = ℕ})) in
    c.is_far.ensures
    ∙ ap (λ b. b && is_far h letters from to place) (sym c.if-is_odd.true ∙ c.is_odd.ensures ∙ odd)

pub returns-else-is_odd : goal.returns-else-is_odd
returns-else-is_odd c =
    let h = held c.args.patterns.now in
    let letters = c.args.letters.now in
    let from = c.args.from in
    let to = c.args.to in
    let place = c.args.place in
    let odd = odd-is h.level_from (part from to letters) c.args.levels.now (place - from)
    c.requires.levels (omega (arith, length-take {A = ℕ}, length-drop {A = ℕ})) in
    c.if-is_odd.false
    ∙ ap (λ b. b && is_far h letters from to place) (sym c.if-is_odd.false ∙ c.is_odd.ensures ∙ odd)
