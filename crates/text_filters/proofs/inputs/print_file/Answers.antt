use Rattle.text_filters.proofs.inputs.print_file.Goals as goal

pub returns-in-Ok-clause-printed : goal.returns-in-Ok-clause-printed
returns-in-Ok-clause-printed g c =
    let left = g.F.Input.Read.remaining c.print_input.new.reader in
    (left, rw c.in-Ok.ensures.input at c.print_input.ensures.treated)
