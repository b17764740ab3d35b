use Rattle.textwrap_more_calls.proofs.fragments.textwrap_wrap_optimal_fit.Goals as goal
use Rattle.textwrap_calls.proofs.Common.{map, ◌∙◌, ap}
use Rattle.textwrap_more_calls.proofs.Common.{WritesText-answer, ends_of}

pub returns-in-Ok-line_ends-clause-fit : goal.returns-in-Ok-line_ends-clause-fit
returns-in-Ok-line_ends-clause-fit c =
    WritesText-answer (
      map (λ line. line.now) c.in-Ok.lines.items,
      c.in-Ok.ensures.fit.divided,
      c.deref-in-Ok-line_ends.ensures.value ∙ c.in-Ok-line_ends.ensures
          ∙ ap (λ ls. ends_of (map (λ line. line.now) ls)) c.deref.ensures.value,
    ) c.put.ensures.text
