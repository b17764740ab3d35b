use Rattle.textwrap_patterns.proofs.Ascii.{mark-none}
use Rattle.textwrap_text.proofs.Common.{sym}
use Rattle.textwrap_patterns.proofs.letters.is_mark.Goals as goal

pub returns-then-ch-lt768 : goal.returns-then-ch-lt768
returns-then-ch-lt768 c = sym (mark-none c.args.ch c.if-ch-lt768.true)
