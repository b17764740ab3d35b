use Rattle.textwrap_hyphens.proofs.{Common.subst, Common.sym, Held.held-inner}
use Rattle.textwrap_hyphens.{proofs.InnerPoints.points-cuts, specs.Table.held}
use Rattle.textwrap_text.proofs.Numbers.{both}
use Rattle.textwrap_words.proofs.Common.{AreInnerCuts}
use Rattle.textwrap_hyphens.proofs.points.points.Goals as goal

pub returns-clause-cuts : goal.returns-clause-cuts
returns-clause-cuts g c =
    let word = c.args.word.now in
    let patterns = c.args.patterns.now in
    let cuts = points-cuts (held patterns) word c.utf8.word (held-inner patterns) in
    both c.found_points.result _ _ _ (λ points one two. subst (AreInnerCuts word) (sym one) cuts)
    c.found_points.ensures c.found_points.ensures
