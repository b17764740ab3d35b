use Rattle.clap.{proofs.WalkLemmas.first_value-rows, specs.Words.found_of}
use Rattle.std.proofs.Common.{◌∙◌}
use Rattle.text_filters.proofs.arguments.text_of.Goals as goal

pub returns : goal.returns
returns c = c.get_str.ensures ∙ first_value-rows (found_of c.args.matches.now) c.args.id.now
