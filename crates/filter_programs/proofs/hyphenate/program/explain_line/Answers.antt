use Rattle.std.proofs.Common.{inl, refl, string_bytes}
use Rattle.text_filters.proofs.MessageLemmas.{says-result}
use Rattle.filter_programs.proofs.hyphenate.program.explain_line.Goals as goal

pub returns : goal.returns
returns g c =
    inl (
      string_bytes c.in-Ok.text,
      c.in-Ok.ensures.ok,
      rw c.deref.ensures at (rw c.format-number.ensures.text at
          (says-result g.M.WriteWhole.faults _ _ _ c.write_message-said.result c.is_ok.result c.is_ok.ensures.value
          c.write_message-said.ensures.ok c.write_message-said.ensures.prefix
          c.write_message-said.ensures.failed)),
      (refl, refl),
    )
