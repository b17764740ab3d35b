use Rattle.filter_programs.proofs.hyphenate.program.say_changed.Goals as goal
use Rattle.std.proofs.lemmas.Bool.{ne_eqb}
use Rattle.text_filters.proofs.MessageLemmas.{says-result}

pub returns : goal.returns
returns g c =
    rw (c.if-request.false, ne_eqb c.args.changed 0 c.if-changed-eq0.false)
    (rw c.format-number.ensures.text at
    (says-result g.M.WriteWhole.faults _ _ _ c.write_message.result c.is_ok.result c.is_ok.ensures.value
    c.write_message.ensures.ok c.write_message.ensures.prefix c.write_message.ensures.failed))
