use Rattle.textwrap_marks.proofs.words.ends_with.Goals as goal
use Rattle.std.proofs.lemmas.Str.Pattern.{ends_text}

pub returns : goal.returns
returns c = ends_text c.ends_with.result c.args.part.now c.args.text.now c.ends_with.ensures.cases
