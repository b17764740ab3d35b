use Rattle.filter_programs.proofs.hyphenate.arguments.command.Goals as goal
use Rattle.clap.specs.Words.{Rule, rule_of, with_rule}
use Rattle.std.proofs.{Common.Some, Common.ap, Common.ap₂, Common.◌∙◌, lemmas.Result.IfOk-weaker}

pub returns : goal.returns
returns c =
    let app_1 = c.in_ok-arg.ensures.shape c.columns_argument.ensures.local
    ∙ ap₂ with_rule c.new_command.ensures c.columns_argument.ensures.rule in
    let app_2 = c.in_ok-arg-2.ensures.shape c.flag.ensures.local ∙ ap₂ with_rule app_1 c.flag.ensures.rule in
    let app_3 = c.in_ok-arg-3.ensures.shape c.flag-2.ensures.local ∙ ap₂ with_rule app_2 c.flag-2.ensures.rule in
    let app_4 = c.in_ok-arg-4.ensures.shape c.count_argument.ensures.local
    ∙ ap₂ with_rule app_3 c.count_argument.ensures.rule in
    let app_5 = c.in_ok-arg-5.ensures.shape c.count_argument-2.ensures.local
    ∙ ap₂ with_rule app_4 c.count_argument-2.ensures.rule in
    let app_6 = c.in_ok-arg-6.ensures.shape c.flag-3.ensures.local
    ∙ ap₂ with_rule app_5 c.flag-3.ensures.rule in
    let app_7 = c.in_ok-arg-7.ensures.shape (ap (λ argument. argument.global) c.short.ensures ∙ c.flag-4.ensures.local)
    ∙ ap₂ with_rule app_6 (ap rule_of c.short.ensures
    ∙ ap (λ (rule : Rule). record rule { short = Some 113 }) c.flag-4.ensures.rule) in
    let app_8 = c.in_ok-arg-8.ensures.shape c.dictionary_argument.ensures.local
    ∙ ap₂ with_rule app_7 c.dictionary_argument.ensures.rule in
    IfOk-weaker c.arg-9.result _ _ (λ command adds. adds.shape c.file_argument.ensures.local
    ∙ ap₂ with_rule app_8 c.file_argument.ensures.rule) c.arg-9.ensures
