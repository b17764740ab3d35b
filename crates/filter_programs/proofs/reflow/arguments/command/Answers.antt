use Rattle.filter_programs.proofs.reflow.arguments.command.Goals as goal
use Rattle.clap.specs.Words.{with_rule}
use Rattle.std.proofs.{Common.ap₂, Common.◌∙◌, lemmas.Result.IfOk-weaker}

pub returns : goal.returns
returns c =
    let app_1 = c.in_ok-arg.ensures.shape c.width_argument.ensures.local
    ∙ ap₂ with_rule c.new_command.ensures c.width_argument.ensures.rule in
    let app_2 = c.in_ok-arg-2.ensures.shape c.flag.ensures.local
    ∙ ap₂ with_rule app_1 c.flag.ensures.rule in
    let app_3 = c.in_ok-arg-3.ensures.shape c.flag-2.ensures.local
    ∙ ap₂ with_rule app_2 c.flag-2.ensures.rule in
    let app_4 = c.in_ok-arg-4.ensures.shape c.flag-3.ensures.local
    ∙ ap₂ with_rule app_3 c.flag-3.ensures.rule in
    let app_5 = c.in_ok-arg-5.ensures.shape c.flag-4.ensures.local
    ∙ ap₂ with_rule app_4 c.flag-4.ensures.rule in
    let app_6 = c.in_ok-arg-6.ensures.shape c.text.ensures.local
    ∙ ap₂ with_rule app_5 c.text.ensures.rule in
    let app_7 = c.in_ok-arg-7.ensures.shape c.flag-5.ensures.local
    ∙ ap₂ with_rule app_6 c.flag-5.ensures.rule in
    let app_8 = c.in_ok-arg-8.ensures.shape c.text-2.ensures.local
    ∙ ap₂ with_rule app_7 c.text-2.ensures.rule in
    let app_9 = c.in_ok-arg-9.ensures.shape c.flag-6.ensures.local
    ∙ ap₂ with_rule app_8 c.flag-6.ensures.rule in
    let app_10 = c.in_ok-arg-10.ensures.shape c.lines_argument.ensures.local
    ∙ ap₂ with_rule app_9 c.lines_argument.ensures.rule in
    let app_11 = c.in_ok-arg-11.ensures.shape c.flag-7.ensures.local
    ∙ ap₂ with_rule app_10 c.flag-7.ensures.rule in
    let app_12 = c.in_ok-arg-12.ensures.shape c.flag-8.ensures.local
    ∙ ap₂ with_rule app_11 c.flag-8.ensures.rule in
    let app_13 = c.in_ok-arg-13.ensures.shape c.flag-9.ensures.local
    ∙ ap₂ with_rule app_12 c.flag-9.ensures.rule in
    let app_14 = c.in_ok-arg-14.ensures.shape c.flag-10.ensures.local
    ∙ ap₂ with_rule app_13 c.flag-10.ensures.rule in
    let app_15 = c.in_ok-arg-15.ensures.shape c.flag-11.ensures.local
    ∙ ap₂ with_rule app_14 c.flag-11.ensures.rule in
    let app_16 = c.in_ok-arg-16.ensures.shape c.quiet_argument.ensures.local
    ∙ ap₂ with_rule app_15 c.quiet_argument.ensures.rule in
    IfOk-weaker c.arg-17.result _ _ (λ command adds. adds.shape c.file_argument.ensures.local
    ∙ ap₂ with_rule app_16 c.file_argument.ensures.rule) c.arg-17.ensures
