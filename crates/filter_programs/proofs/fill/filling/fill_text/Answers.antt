use Rattle.textwrap.proofs.Common.{rules, settings_at}
use Rattle.textwrap_program.specs.Arguments.{asked_algorithm}
use Rattle.textwrap_words.proofs.Common.{AtHyphens}
use Rattle.filter_programs.proofs.fill.filling.fill_text.Goals as goal

pub returns-in-Ok : goal.returns-in-Ok
returns-in-Ok c =
    let filled = c.in-Ok.ensures.built_in (settings_at c.args.how.now.width) AtHyphens
    (asked_algorithm c.args.how.now.algorithm) (search rules) in
    search (rules, filled)
