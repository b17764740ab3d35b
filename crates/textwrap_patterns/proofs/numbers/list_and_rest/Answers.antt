use Rattle.std.proofs.Common.{◌∙◌}
use Rattle.textwrap_patterns.proofs.ListsWithin.{numbers_at-fit, rest-fit}
use Rattle.textwrap_patterns.proofs.numbers.list_and_rest.Goals as goal

pub returns-clause-list : goal.returns-clause-list
returns-clause-list c =
    c.split_at.ensures.front
    ∙ numbers_at-fit c.args.words.now c.args.at c.min.result c.if-at-words.false c.min.ensures

pub returns-clause-rest : goal.returns-clause-rest
returns-clause-rest c =
    c.split_at.ensures.back
    ∙ rest-fit c.args.words.now c.args.at c.min.result c.if-at-words.false c.min.ensures
