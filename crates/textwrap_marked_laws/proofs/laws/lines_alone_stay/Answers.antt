use Rattle.textwrap_marked_laws.proofs.laws.lines_alone_stay.Goals as goal
use Rattle.textwrap_marked_laws.proofs.NewTexts.{read-within, alone-same, read-whole}

pub returns-clause-whole : goal.returns-clause-whole
returns-clause-whole c = λ options text reflowed is.
    alone-same options text reflowed (read-whole options text reflowed is)

pub returns-clause-within : goal.returns-clause-within
returns-clause-within c = λ options range text reflowed is.
    alone-same options text reflowed (read-within options text reflowed range is)
