use Rattle.textwrap_marks.proofs.words.without_end.Goals as goal
use Rattle.textwrap_marks.proofs.ContainedTexts.{without-end}

pub returns : goal.returns
returns c =
    without-end c.args.end.now c.args.text.now c.strip_suffix.result c.strip_suffix.ensures.cases
