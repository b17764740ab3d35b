use Rattle.std.specs.String.{string_bytes}
use Rattle.text_filters.proofs.InputLemmas.{prints-unwritten}
use Rattle.text_filters.proofs.inputs.print_input.Goals as goal

pub returns-clause-treated : goal.returns-clause-treated
returns-clause-treated g c =
    let filtered = c.in_ok-filtered.filtered in
    prints-unwritten (g.T.Filter.work c.args.filter.now) _ _ filtered.input.items (string_bytes filtered.output.text)
    c.in_ok-filtered.ensures.read.0 g.W.WriteWhole.faults _ _ _ c.in-Err.fault c.as_bytes.ensures.value c.in-Err.ensures.prefix
    c.in-Err.ensures.only_output
