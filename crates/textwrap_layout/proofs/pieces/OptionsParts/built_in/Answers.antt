use Rattle.textwrap_layout.proofs.pieces.OptionsParts.built_in.Goals as goal
use Rattle.textwrap_layout.proofs.Common.{as_algorithm, MaySeparate, as_splitter}
use Rattle.textwrap_layout.proofs.Paragraph.Pieces.{direct-divided, if_some}

pub returns-clause-parts : goal.returns-clause-parts
returns-clause-parts g c = λ settings. if_some c.built_in_parts.result
    (λ parts. direct-divided c.args.self.now settings (MaySeparate c.args.self.now.word_separator)
    (as_splitter parts.splitter)
    (as_algorithm parts.algorithm)) c.built_in_parts.ensures.parts
