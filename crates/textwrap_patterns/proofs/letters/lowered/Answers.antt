use Rattle.textwrap_patterns.proofs.Ascii.{lowered-ascii, lowered-latin}
use Rattle.textwrap_text.proofs.Common.{sym, ◌∙◌}
use Rattle.textwrap_patterns.proofs.letters.lowered.Goals as goal

pub returns-then-ch-lt128 : goal.returns-then-ch-lt128
returns-then-ch-lt128 c =
    c.to_ascii_lowercase.ensures.value ∙ sym (lowered-ascii c.args.ch c.if-ch-lt128.true)

pub returns-then-ch-le255 : goal.returns-then-ch-le255
returns-then-ch-le255 c = sym (lowered-latin c.args.ch c.if-ch-ge223.true c.if-ch-le255.true)
