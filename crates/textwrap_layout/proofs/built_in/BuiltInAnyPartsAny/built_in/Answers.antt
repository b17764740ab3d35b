use Rattle.textwrap_layout.proofs.built_in.BuiltInAnyPartsAny.built_in.Goals as goal
use Rattle.textwrap_text.proofs.Common.{refl}
use Rattle.textwrap_layout.proofs.Common.{AreSplit-computed, pieces_of_words, as_splitter}
use Rattle.textwrap_layout.proofs.Common.{split_words}

pub returns-clause-parts : goal.returns-clause-parts
returns-clause-parts g c = λ settings is_later paragraph words division are by.
    let splitter = as_splitter c.args.self.now.parts.splitter in (
      pieces_of_words settings splitter words,
      (words, split_words splitter words, are, AreSplit-computed splitter words, refl),
      by,
    )
