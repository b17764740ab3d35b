use Rattle.std.proofs.{Common.{false, sym, true, refl}, KnownBytes.Keeps-refl}
use Rattle.std.{proofs.Math.Bool.{and-false, and-true}, specs.String.string_bytes}
use Rattle.text_filters.proofs.InputLemmas.{IsDiffText-of, compared-other, compared-same}
use Rattle.text_filters.proofs.InputLemmas.{differs-unwritten}
use Rattle.text_filters.proofs.inputs.diff_input.Goals as goal

pub returns-then-eq-clause-treated : goal.returns-then-eq-clause-treated
returns-then-eq-clause-treated g c =
    let filtered = c.in_ok-filtered.filtered in (
      filtered.input.items,
      string_bytes filtered.output.text,
      false,
      c.in_ok-filtered.ensures.read.0,
      (
        compared-same _ _ _ _ c.as_slice.ensures.value c.as_bytes.ensures.value c.if-eq.ensures,
        Keeps-refl (g.W.WriteWhole.contents c.args.writer.now),
      ),
      sym (and-false c.args.counts),
      c.in_ok-filtered.ensures.read.1,
      refl,
    )

pub returns-in-Ok-write_output-clause-treated : goal.returns-in-Ok-write_output-clause-treated
returns-in-Ok-write_output-clause-treated g c =
    let filtered = c.in_ok-filtered.filtered in
    let input = filtered.input.items in
    let output = string_bytes filtered.output.text in (
      input,
      output,
      true,
      c.in_ok-filtered.ensures.read.0,
      (
        compared-other _ _ _ _ c.as_slice.ensures.value c.as_bytes.ensures.value c.if-eq.ensures,
        (
          c.in-Ok.text.items,
          IsDiffText-of c.args.name.now input output _ _ c.in-Ok.text.items c.deref.ensures.value
              c.as_bytes-2.ensures.value c.in-Ok.ensures,
          rw c.deref-2.ensures.value at c.in-Ok-write_output.ensures.ok,
        ),
      ),
      sym (and-true c.args.counts),
      c.in_ok-filtered.ensures.read.1,
      refl,
    )

pub returns-clause-treated : goal.returns-clause-treated
returns-clause-treated g c =
    let filtered = c.in_ok-filtered.filtered in
    let input = filtered.input.items in
    let output = string_bytes filtered.output.text in
    let old = g.W.WriteWhole.contents c.args.writer.now in
    let new = g.W.WriteWhole.contents c.write_output.new.writer in
    differs-unwritten (g.T.Filter.work c.args.filter.now) _ _ input output c.in_ok-filtered.ensures.read.0 g.W.WriteWhole.faults c.args.counts
    c.args.name.now c.in-Ok.text.items old new c.in-Err.fault
    (compared-other _ _ _ _ c.as_slice.ensures.value c.as_bytes.ensures.value c.if-eq.ensures)
    (IsDiffText-of c.args.name.now input output _ _ c.in-Ok.text.items c.deref.ensures.value
    c.as_bytes-2.ensures.value c.in-Ok.ensures)
    (rw c.deref-2.ensures.value at c.in-Err.ensures.prefix)
    c.in-Err.ensures.only_output
