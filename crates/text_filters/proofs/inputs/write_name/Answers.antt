use Rattle.std.proofs.lemmas.Result.{on_err_weaker}
use Rattle.textwrap_program.proofs.WriteLemmas.{OnErr-from, WritesPrefix-longer, WritesPrefix-after}
use Rattle.text_filters.proofs.inputs.write_name.Goals as goal

pub returns-in_err-write_output-clause-prefix : goal.returns-in_err-write_output-clause-prefix
returns-in_err-write_output-clause-prefix g c =
    OnErr-from c.from_residual.result
    (WritesPrefix-longer _ _ _ _ (rw c.as_bytes.ensures.value at c.in_err-write_output.ensures.prefix))

pub returns-clause-prefix : goal.returns-clause-prefix
returns-clause-prefix g c =
    on_err_weaker c.write_output-2.result
    (WritesPrefix-after _ _ _ _ _ (rw c.as_bytes.ensures.value at c.in_ok-write_output.ensures.ok))
    c.write_output-2.ensures.prefix
