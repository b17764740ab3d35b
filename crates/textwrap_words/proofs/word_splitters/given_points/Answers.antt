use Rattle.textwrap_words.proofs.word_splitters.given_points.Goals as goal
use Rattle.textwrap_text.proofs.Common.{refl, sym, ◌∙◌}

pub returns-clause-points : goal.returns-clause-points
returns-clause-points g c = (
  c.args.word_cuts.alloc,
  c.args.word,
  c.in_ok-points.points,
  refl,
  sym (c.in_ok-copied.ensures.items ∙ c.deref.ensures.value),
  c.in_ok-points.ensures.0,
)
