use Rattle.textwrap_text.proofs.{Common.[], Common.ap, Common.◌≡◌, Lists.Elements.map-push-append}
use Rattle.textwrap_text.proofs.Common.{All-nil, append-nil, length-map, nat_tests, nil_from_length}
use Rattle.textwrap_text.proofs.Common.{arith, length, map, rules, subst, sym, take, ◌<◌, ◌∙◌, ◌∷◌}
use Rattle.textwrap_base.proofs.{Common.line_width, Division.Greedy.IsGreedyFrom}
use Rattle.textwrap_base.proofs.Division.Greedy.{greedy_fewest, IsGreedy-from, IsGreedyFrom-cons}
use Rattle.textwrap_base.proofs.first_fit.wrap_first_fit.Goals as goal

pub loop-rest-preserved : goal.loop-rest-preserved
loop-rest-preserved g c = (
  c.loop-rest.invariant.0,
  λ tail greedy.
      let some : 0 < length c.loop-rest.rest.now = grind (arith, nat_tests) in
      let rest = rw (c.in_ok-push-2.ensures.len, c.split_at.ensures.back) at greedy in
      let width = c.line_width-width.ensures ∙ ap (line_width c.args.line_widths.now) c.len.ensures in
      let line = IsGreedyFrom-cons g.T.Fragment.sizes c.args.line_widths.now _ _ _
      (c.fitting_len.ensures.some some) c.fitting_len.ensures.within
      (rw width at c.fitting_len.ensures.fits) (rw width at c.fitting_len.ensures.full) tail rest in
      subst (IsGreedyFrom g.T.Fragment.sizes c.args.line_widths.now 0 c.args.fragments.now)
      (sym (map-push-append (λ line. line.now) _ _ _ _ tail c.in_ok-push-2.ensures.items
      c.split_at.ensures.front))
      (c.loop-rest.invariant.1 (take c.fitting_len.result c.loop-rest.rest.now ∷ tail) line),
)

pub returns : goal.returns
returns g c =
    let none : length c.loop-rest.rest.now ≡ 0 = grind (arith, nat_tests) in
    let greedy = IsGreedy-from g.T.Fragment.sizes c.args.line_widths.now c.args.fragments.now
    (map (λ line. line.now) c.loop-rest.lines.items) c.loop-rest.invariant.0
    (rw append-nil at (c.loop-rest.invariant.1 []
    (grind (arith, nil_from_length, All-nil)))) in search (rules, arith, length-map, greedy_fewest)
