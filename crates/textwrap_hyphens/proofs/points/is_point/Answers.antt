use Rattle.std.proofs.Common.{◌&&◌, ap, arith, sym, ◌∙◌}
use Rattle.textwrap_hyphens.proofs.Parts.{point-is, point-none}
use Rattle.textwrap_hyphens.specs.{Hyphenation.is_allowed, Table.held}
use Rattle.textwrap_hyphens.proofs.points.is_point.Goals as goal

pub returns-then-is_odd : goal.returns-then-is_odd
returns-then-is_odd c =
    let h = held c.args.patterns.now in
    let letters = c.args.letters.now in
    c.is_allowed.ensures
    ∙ ap (λ b. b && is_allowed h letters c.args.place) (sym c.if-is_odd.true ∙ c.is_odd.ensures)
    ∙ point-is h letters c.args.levels.now c.args.place c.requires.levels c.requires.behind (omega arith)

pub returns-else-is_odd : goal.returns-else-is_odd
returns-else-is_odd c =
    let h = held c.args.patterns.now in
    let letters = c.args.letters.now in
    c.if-is_odd.false
    ∙ ap (λ b. b && is_allowed h letters c.args.place) (sym c.if-is_odd.false ∙ c.is_odd.ensures)
    ∙ point-is h letters c.args.levels.now c.args.place c.requires.levels c.requires.behind (omega arith)

pub returns-then-levels-place : goal.returns-then-levels-place
returns-then-levels-place c =
    sym (point-none (held c.args.patterns.now) c.args.letters.now c.args.levels.now c.args.place
    c.requires.levels c.requires.behind (omega arith))
