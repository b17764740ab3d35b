use Rattle.textwrap_lines.proofs.least_cost.least_cost_lines.Goals as goal
use Rattle.textwrap_lines.proofs.Common.{FollowStarts, map, subst, ◌∙◌}
use Rattle.textwrap_base.proofs.Cost.Table.{first_reported, length_reported, starts_reported}
use Rattle.textwrap_base.proofs.Cost.Table.{later_reported}
use Rattle.textwrap_text.proofs.Numbers.{both}

pub lines_by-requires-clause-len : goal.lines_by-requires-clause-len
lines_by-requires-clause-len g c =
    length_reported _ _ _ (c.deref.ensures.value ∙ c.in_ok-minima.ensures.minima)

pub lines_by-requires-clause-first : goal.lines_by-requires-clause-first
lines_by-requires-clause-first g c =
    first_reported _ _ _ (c.deref.ensures.value ∙ c.in_ok-minima.ensures.minima)

pub lines_by-requires-clause-later : goal.lines_by-requires-clause-later
lines_by-requires-clause-later g c =
    later_reported _ _ _ (c.deref.ensures.value ∙ c.in_ok-minima.ensures.minima)

pub returns : goal.returns
returns g c = both c.lines_by.result _ _ _
    (λ lines division follow. record {
      division = division;
      starts = subst (λ starts. FollowStarts starts 0 (map (λ line. line.now) lines.items))
          (starts_reported _ _ _ (c.deref.ensures.value ∙ c.in_ok-minima.ensures.minima)) follow;
    }) c.lines_by.ensures.division c.lines_by.ensures.follow
