use Rattle.textwrap.proofs.Common.{IfOk-weaker, layout_view, length-map, sym, ◌∙◌}
use Rattle.textwrap_plain.{proofs.Balance.Search.balanced-many, specs.Options.points_by}
use Rattle.textwrap_plain.proofs.balancing.wrap_balanced.Goals as goal

pub returns-clause-lines : goal.returns-clause-lines
returns-clause-lines g c = IfOk-weaker c.wrap_by.result _ _
    (λ lines are. (c.in_ok-balance.balance.width, c.in_ok-balance.ensures.balanced, are))
    c.wrap_by.ensures.lines

pub returns-clause-as_many : goal.returns-clause-as_many
returns-clause-as_many g c =
    IfOk-weaker c.wrap_by.result _ _ (λ lines are others other_are.
    sym (length-map lines.items _)
    ∙ balanced-many (layout_view c.args.layout) (g.W.PrintableCuts.words c.args.parts.now.words)
    (points_by c.args.parts.now.splitter) c.args.text.now c.in_ok-balance.balance.width _
    others c.in_ok-balance.ensures.balanced are other_are) c.wrap_by.ensures.lines
