use Rattle.textwrap_layout.proofs.Common.{AreSplit-computed}
use Rattle.textwrap_lines.proofs.Common.{as_splitter, pieces_of_words, split_words, refl}
use Rattle.textwrap_plain.proofs.parts.PlainPartsParts.built_in.Goals as goal

pub returns-in-BuiltIn-clause-parts : goal.returns-in-BuiltIn-clause-parts
returns-in-BuiltIn-clause-parts g c = λ settings is_later paragraph words division are by.
    let splitter = as_splitter c.in-BuiltIn.splitter in
    rw c.in-BuiltIn.is (
      pieces_of_words settings splitter words,
      (words, split_words splitter words, are, AreSplit-computed splitter words, refl),
      by,
    )
