use Rattle.textwrap_more_calls.proofs.fitting.list_widths.Goals as goal

pub returns : goal.returns
returns c =
    rw (
      c.deref-2.ensures.value,
      c.in_ok-needs.ensures,
      c.deref.ensures.value,
      c.in_ok-texts.ensures,
    ) at c.fitting_widths.ensures.widths
