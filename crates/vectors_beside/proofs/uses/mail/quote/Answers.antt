use Rattle.vectors_beside.proofs.Common.{default_algorithm, AtHyphens, rules}
use Rattle.vectors_beside.proofs.uses.mail.quote.Goals as goal

pub returns-clause-filled : goal.returns-clause-filled
returns-clause-filled c =
    c.in_ok-quoted.ensures.built_in _ AtHyphens default_algorithm (search rules)
