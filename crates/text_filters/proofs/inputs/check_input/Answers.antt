use Rattle.std.{proofs.Common.refl, proofs.KnownBytes.Keeps-refl, specs.String.string_bytes}
use Rattle.text_filters.proofs.InputLemmas.{checks-unwritten, compared-other, compared-same}
use Rattle.text_filters.proofs.inputs.check_input.Goals as goal

pub returns-then-eq-clause-treated : goal.returns-then-eq-clause-treated
returns-then-eq-clause-treated g c =
    let filtered = c.in_ok-filtered.filtered in (
      filtered.input.items,
      string_bytes filtered.output.text,
      c.in_ok-filtered.ensures.read.0,
      (
        compared-same _ _ _ _ c.as_slice.ensures.value c.as_bytes.ensures.value c.if-eq.ensures,
        Keeps-refl (g.W.WriteWhole.contents c.args.writer.now),
      ),
      c.in_ok-filtered.ensures.read.1,
      refl,
    )

pub returns-in-Ok-clause-treated : goal.returns-in-Ok-clause-treated
returns-in-Ok-clause-treated g c =
    let filtered = c.in_ok-filtered.filtered in (
      filtered.input.items,
      string_bytes filtered.output.text,
      c.in_ok-filtered.ensures.read.0,
      (
        compared-other _ _ _ _ c.as_slice.ensures.value c.as_bytes.ensures.value c.if-eq.ensures,
        c.in-Ok.ensures.ok,
      ),
      c.in_ok-filtered.ensures.read.1,
      refl,
    )

pub returns-clause-treated : goal.returns-clause-treated
returns-clause-treated g c =
    let filtered = c.in_ok-filtered.filtered in
    checks-unwritten (g.T.Filter.work c.args.filter.now) _ _ filtered.input.items (string_bytes filtered.output.text)
    c.in_ok-filtered.ensures.read.0 g.W.WriteWhole.faults c.args.name.now _ _ c.in-Err.fault
    (compared-other _ _ _ _ c.as_slice.ensures.value c.as_bytes.ensures.value c.if-eq.ensures)
    c.in-Err.ensures.prefix c.in-Err.ensures.only_output
