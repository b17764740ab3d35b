use Rattle.text_filters.proofs.MessageLemmas.{says-result}
use Rattle.text_filters.proofs.program.say_sum.Goals as goal

pub returns : goal.returns
returns g c =
    rw c.format-names.ensures.text at (rw c.format-replaced.ensures.text at
    (says-result g.M.WriteWhole.faults _ _ _ c.write_texts.result c.is_ok.result c.is_ok.ensures.value
    c.write_texts.ensures.ok c.write_texts.ensures.prefix c.write_texts.ensures.failed))
