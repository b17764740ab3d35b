use Rattle.std.specs.Result.{result_err}
use Rattle.textwrap_program.{proofs.FillingLemmas.Runs-read, specs.Arguments.asked_algorithm}
use Rattle.textwrap_program.proofs.filling.run.Goals as goal

pub returns : goal.returns
returns g c =
    Runs-read c.args.width (asked_algorithm c.args.algorithm) _ _ _ _ c.in_ok-input.input.items
    (result_err c.write_filled.result) c.in_ok-input.ensures.ok
    (rw (← c.deref.ensures.value) c.write_filled.ensures)
