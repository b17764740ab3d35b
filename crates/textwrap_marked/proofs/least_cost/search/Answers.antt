use Rattle.textwrap_marked.proofs.least_cost.search.Goals as goal
use Rattle.textwrap_base.proofs.Cost.Table.{length_reported, starts_reported, first_reported}
use Rattle.textwrap_base.proofs.{Common.FollowStarts, Cost.Table.later_reported}
use Rattle.textwrap_marked.proofs.Common.{subst, map, ◌∙◌}
use Rattle.textwrap_text.proofs.Numbers.{both}

pub lines_by-requires-clause-len : goal.lines_by-requires-clause-len
lines_by-requires-clause-len c =
    length_reported _ _ _ (c.deref.ensures.value ∙ c.in_ok-minima.ensures.minima)

pub lines_by-requires-clause-first : goal.lines_by-requires-clause-first
lines_by-requires-clause-first c =
    first_reported _ _ _ (c.deref.ensures.value ∙ c.in_ok-minima.ensures.minima)

pub lines_by-requires-clause-later : goal.lines_by-requires-clause-later
lines_by-requires-clause-later c =
    later_reported _ _ _ (c.deref.ensures.value ∙ c.in_ok-minima.ensures.minima)

pub returns : goal.returns
returns c = both c.lines_by.result _ _ _
    (λ lines division follow. record {
      division = division;
      starts = subst (λ starts. FollowStarts starts 0 (map (λ line. line.now) lines.items))
          (starts_reported _ _ _ (c.deref.ensures.value ∙ c.in_ok-minima.ensures.minima)) follow;
    }) c.lines_by.ensures.division c.lines_by.ensures.follow
