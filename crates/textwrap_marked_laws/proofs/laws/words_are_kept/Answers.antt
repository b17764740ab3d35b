use Rattle.textwrap_marked_laws.{proofs.NewParts.{kept-words, new-parts}, specs.Laws.PartKeepsWords}
use Rattle.textwrap_marked_laws.proofs.laws.words_are_kept.Goals as goal

pub returns : goal.returns
returns c = λ options. new-parts options (PartKeepsWords options) (kept-words options)
