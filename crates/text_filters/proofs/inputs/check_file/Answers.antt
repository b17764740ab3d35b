use Rattle.std.proofs.Common.{subst}
use Rattle.text_filters.specs.Inputs.{Checks}
use Rattle.text_filters.proofs.inputs.check_file.Goals as goal

pub returns-in-Ok-clause-checked : goal.returns-in-Ok-clause-checked
returns-in-Ok-clause-checked g c =
    let left = g.F.Input.Read.remaining c.check_input.new.reader in
    let old = g.W.WriteWhole.contents c.args.writer.now in
    let new = g.W.WriteWhole.contents c.check_input.new.writer in (
      left,
      subst
          (λ unread. Checks (g.T.Filter.work c.args.filter.now) c.args.name.now unread left old new c.check_input.result)
          c.in-Ok.ensures.input c.check_input.ensures.treated,
    )
