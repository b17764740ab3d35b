use Rattle.filter_programs.proofs.fill.arguments.command.Goals as goal
use Rattle.clap.specs.Words.{with_rule}
use Rattle.std.proofs.{Common.ap₂, Common.◌∙◌, lemmas.Result.IfOk-weaker}

pub returns : goal.returns
returns c =
    let app_1 = c.in_ok-arg.ensures.shape c.width_argument.ensures.local
    ∙ ap₂ with_rule c.new_command.ensures c.width_argument.ensures.rule in
    let app_2 = c.in_ok-arg-2.ensures.shape c.flag.ensures.local
    ∙ ap₂ with_rule app_1 c.flag.ensures.rule in
    let app_3 = c.in_ok-arg-3.ensures.shape c.flag-2.ensures.local
    ∙ ap₂ with_rule app_2 c.flag-2.ensures.rule in
    IfOk-weaker c.arg-4.result _ _ (λ command adds. adds.shape c.file_argument.ensures.local
    ∙ ap₂ with_rule app_3 c.file_argument.ensures.rule) c.arg-4.ensures
