use Rattle.textwrap_lines.proofs.Common.{layout_view, refl}
use Rattle.textwrap_lines.proofs.wrapping.fill_to.Goals as goal

pub push_text-requires : goal.push_text-requires
push_text-requires g c = λ k. (
  (refl, tt),
  (c.built_in.ensures.parts (layout_view c.args.layout), c.requires.none),
)
