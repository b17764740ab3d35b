use Rattle.textwrap.proofs.Common.{word_view, map}
use Rattle.textwrap_plain.proofs.Pieces.{plain-fits}
use Rattle.textwrap_plain.proofs.parts.PlainPartsParts.divide.Goals as goal

pub returns-clause-only_memory : goal.returns-clause-only_memory
returns-clause-only_memory g c = λ settings paragraph utf8 short are tiles never.
    c.divide.ensures.no_overflow (plain-fits c.args.self.now.splitter settings paragraph
    (map word_view c.args.pieces.now) utf8 short are)
