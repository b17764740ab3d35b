use Rattle.text_filters.proofs.MessageLemmas.{says-result}
use Rattle.text_filters.proofs.program.complain_of.Goals as goal

pub returns-clause-said : goal.returns-clause-said
returns-clause-said g c =
    rw c.value_of-value.ensures at
    (says-result g.M.WriteWhole.faults _ _ _ c.write_texts.result c.is_ok.result c.is_ok.ensures.value
    c.write_texts.ensures.ok c.write_texts.ensures.prefix c.write_texts.ensures.failed)
