use Rattle.std.{proofs.Common.{inl, inr, refl}, specs.String.string_bytes}
use Rattle.text_filters.proofs.InputLemmas.{ReadsText-of, compared-other, compared-same}
use Rattle.text_filters.proofs.InputLemmas.{replaces-unread}
use Rattle.text_filters.proofs.replacing.replace_file.Goals as goal

pub returns-in-Err-clause-replaced : goal.returns-in-Err-clause-replaced
returns-in-Err-clause-replaced g c =
    replaces-unread (g.T.Filter.work c.args.filter.now) c.args.name.now (g.F.Files.past c.args.files.now)
    (g.F.Files.past c.open_regular.new.files) _ _ _ c.in_ok-original.ensures.input
    c.open_regular.ensures.kept c.in-Err.ensures.read

pub returns-then-eq-clause-replaced : goal.returns-then-eq-clause-replaced
returns-then-eq-clause-replaced g c =
    let filtered = c.in-Ok.filtered in (
      g.F.Input.Read.remaining c.read_filtered.new.reader,
      filtered.input.items,
      string_bytes filtered.output.text,
      ReadsText-of (g.T.Filter.work c.args.filter.now) _ _ _ _ _ c.in_ok-original.ensures.input
          c.in-Ok.ensures.read.0,
      inl (
        compared-same _ _ _ _ c.as_slice.ensures.value c.as_bytes.ensures.value c.if-eq.ensures,
        c.open_regular.ensures.kept,
        refl,
      ),
      refl,
      c.in-Ok.ensures.read.1,
    )

pub returns-in-Ok-put_bytes-clause-replaced : goal.returns-in-Ok-put_bytes-clause-replaced
returns-in-Ok-put_bytes-clause-replaced g c =
    let filtered = c.in-Ok.filtered in
    let original = c.in_ok-original.original in (
      g.F.Input.Read.remaining c.read_filtered.new.reader,
      filtered.input.items,
      string_bytes filtered.output.text,
      ReadsText-of (g.T.Filter.work c.args.filter.now) _ _ _ _ _ c.in_ok-original.ensures.input
          c.in-Ok.ensures.read.0,
      inr (
        compared-other _ _ _ _ c.as_slice.ensures.value c.as_bytes.ensures.value c.if-eq.ensures,
        (
          g.F.Files.place original.node,
          c.in_ok-original.ensures.original,
          rw c.open_regular.ensures.kept at
              (rw c.as_bytes-2.ensures.value at c.in-Ok-put_bytes.ensures.ok),
        ),
        refl,
      ),
      refl,
      c.in-Ok.ensures.read.1,
    )
