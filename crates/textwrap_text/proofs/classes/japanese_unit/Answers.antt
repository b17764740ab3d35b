use Rattle.textwrap_text.proofs.ClassLemmas.{japanese_unit}
use Rattle.textwrap_text.proofs.classes.japanese_unit.Goals as goal

pub returns : goal.returns
returns c = japanese_unit c.args.code c.requires.from c.requires.to
