use Rattle.textwrap_styles.proofs.styles.closing_of.Goals as goal
use Rattle.textwrap_styles.proofs.Common.{sequences}
use Rattle.textwrap_text.proofs.Common.{[]}

pub returns : goal.returns
returns g c = c.closing.ensures (sequences c.args.text.now) (c.in_ok-read.ensures [] c.new-open.ensures)
