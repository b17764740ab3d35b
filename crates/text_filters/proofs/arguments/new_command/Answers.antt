use Rattle.std.proofs.Common.{◌∙◌, ap}
use Rattle.clap.specs.declared.builder.command.Command.TheViews.{out-Command}
use Rattle.text_filters.proofs.CommandLemmas.{about-is, after_help-is, nameless, nameless-is}
use Rattle.text_filters.proofs.CommandLemmas.{overriding, overriding-is, versioned, versioned-is}
use Rattle.text_filters.proofs.arguments.new_command.Goals as goal

pub returns : goal.returns
returns c =
    let new = out-Command c.new.result in
    let version = out-Command c.version.result in
    let about = out-Command c.about.result in
    let examples = out-Command c.after_help.result in
    let nameless_one = out-Command c.no_binary_name.result in
    overriding-is nameless_one (out-Command c.args_override_self.result) c.args_override_self.ensures
    ∙ ap overriding (nameless-is examples nameless_one c.no_binary_name.ensures
    ∙ ap nameless (after_help-is about examples _ c.after_help.ensures
    ∙ about-is version about _ c.about.ensures
    ∙ versioned-is new version _ c.version.ensures ∙ ap versioned c.new.ensures.app))
