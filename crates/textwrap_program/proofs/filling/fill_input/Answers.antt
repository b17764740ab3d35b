use Rattle.std.proofs.Common.{rules}
use Rattle.textwrap_layout.specs.Options.{settings_at}
use Rattle.textwrap_words.specs.WordSplitters.{AtHyphens}
use Rattle.textwrap_program.specs.Arguments.{asked_algorithm}
use Rattle.textwrap_program.proofs.filling.fill_input.Goals as goal

pub returns-in-Ok-fill-clause-filled : goal.returns-in-Ok-fill-clause-filled
returns-in-Ok-fill-clause-filled g c =
    let filled = c.in-Ok-fill.ensures.built_in (settings_at c.args.width) AtHyphens
    (asked_algorithm c.args.algorithm) (search rules) in
    search (rules, filled)
