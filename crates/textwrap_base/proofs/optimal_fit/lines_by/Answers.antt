use Rattle.textwrap_text.proofs.{Common.ap, Common.◌<◌, Common.◌∙◌, Numbers.some_from_test}
use Rattle.textwrap_text.proofs.Common.{arith, Bor, get_or, get_or-map, List, map, reverse, rules}
use Rattle.textwrap_text.proofs.Lists.Elements.{reverse-map, reverse_map_push}
use Rattle.textwrap_base.proofs.{Common.Minimum, optimal_fit.lines_by.Goals.In-loop-end}
use Rattle.textwrap_base.proofs.Cost.Chosen.{joined_division, lines_more}
use Rattle.textwrap_base.proofs.optimal_fit.lines_by.Goals as goal

-- the line that ends there starts before
before : (g : _) (c : In-loop-end g)
    → (get_or c.args.minima.now c.loop-end.end (record { start = 0; cost = 0 })).start
    < c.loop-end.end
before g c = rw (get_or-map (λ (m : Minimum). m.start) c.args.minima.now c.loop-end.end
    (record { start = 0; cost = 0 }) 0 (omega arith))
    at (c.requires.later c.loop-end.end c.loop-end-test.true c.loop-end.invariant.within)

pub offset_bounds-fragments-start : goal.offset_bounds-fragments-start
offset_bounds-fragments-start g c = omega (arith, before g c)

pub slice_bounds-line-count : goal.slice_bounds-line-count
slice_bounds-line-count g c = omega (arith, before g c)

pub slice_bounds-line-start : goal.slice_bounds-line-start
slice_bounds-line-start g c = omega (arith, before g c)

pub loop-end-smaller : goal.loop-end-smaller
loop-end-smaller g c = before g (goal.at.loop-end-smaller g c).In-loop-end

pub loop-end-preserved : goal.loop-end-preserved
loop-end-preserved g c =
    let shape = ap (λ (ls : List (Bor (List g.row.T.Denot))). reverse (map (λ line. line.now) ls))
    c.in_ok-push-2.ensures.items
    ∙ reverse_map_push (λ (line : Bor (List g.row.T.Denot)). line.now) c.loop-end.lines.items _ in
    let earlier = before g (goal.at.loop-end-preserved g c).In-loop-end in
    let more = lines_more _ _ _ _ _ earlier c.loop-end.invariant.within
    (get_or-map (λ (m : Minimum). m.start) c.args.minima.now c.loop-end.end _ 0 (omega arith))
    c.loop-end.invariant.tiles
    c.loop-end.invariant.nonempty c.loop-end.invariant.follow in search (rules, arith)

pub returns-clause-division : goal.returns-clause-division
returns-clause-division g c = search (rules, arith, reverse-map, some_from_test, joined_division)

pub returns-clause-follow : goal.returns-clause-follow
returns-clause-follow g c = search (rules, arith, reverse-map)
