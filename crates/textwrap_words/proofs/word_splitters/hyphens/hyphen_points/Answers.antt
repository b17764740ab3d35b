use Rattle.textwrap_text.proofs.{Common.rules, Common.subst, Common.sym, Lists.Elements.points-more}
use Rattle.textwrap_text.proofs.Common.{ap, arith, filter, length, range_with_len, ◌-◌, ◌∙◌, ◌≡◌}
use Rattle.textwrap_words.proofs.Common.{AreCuts, is_hyphen_point}
use Rattle.textwrap_words.proofs.Word.Splitting.{hyphen_points-cuts, hyphen_points-none}
use Rattle.textwrap_words.proofs.word_splitters.hyphens.hyphen_points.Goals as goal

pub loop-point-preserved : goal.loop-point-preserved
loop-point-preserved g c = grind (arith, points-more)

pub returns : goal.returns
returns g c =
    let whole : c.loop-point.point - 1 ≡ length c.args.word.now - 1 = omega arith in
    let points = c.loop-point.invariant.points
    ∙ ap (λ n. filter (is_hyphen_point c.args.word.now) (range_with_len 1 n)) whole in
    let cuts = subst (AreCuts c.args.word.now) (sym points)
    (hyphen_points-cuts c.args.word.now c.utf8.word) in search (rules, arith)

pub returns-then-not-contains-clause-points : goal.returns-then-not-contains-clause-points
returns-then-not-contains-clause-points g c = grind (arith, hyphen_points-none)
