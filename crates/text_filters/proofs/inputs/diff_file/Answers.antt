use Rattle.text_filters.proofs.inputs.diff_file.Goals as goal

pub returns-in-Ok-clause-told : goal.returns-in-Ok-clause-told
returns-in-Ok-clause-told g c =
    let left = g.F.Input.Read.remaining c.diff_input.new.reader in
    (left, rw c.in-Ok.ensures.input at c.diff_input.ensures.treated)
