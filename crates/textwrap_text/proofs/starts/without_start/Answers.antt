use Rattle.textwrap_text.proofs.Lists.Parts.{without-start}
use Rattle.textwrap_text.proofs.starts.without_start.Goals as goal

pub returns : goal.returns
returns c =
    without-start c.args.start.now c.args.text.now c.strip_prefix.result c.strip_prefix.ensures.cases
