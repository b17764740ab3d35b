use Rattle.clap.{proofs.WalkLemmas.raw_values-rows, specs.Words.found_of}
use Rattle.std.proofs.Common.{[], ◌∙◌, ap, map, refl, unwrap_or}
use Rattle.text_filters.proofs.CommandLemmas.{unwrap_or-texts}
use Rattle.text_filters.proofs.arguments.texts_of.Goals as goal

pub returns : goal.returns
returns c = ap (λ texts. map (λ text. text.now) texts.now) c.unwrap_or.ensures
    ∙ unwrap_or-texts c.get_strs.result _ refl
    ∙ ap (λ texts. unwrap_or texts [])
    (c.get_strs.ensures ∙ raw_values-rows (found_of c.args.matches.now) c.args.id.now)
