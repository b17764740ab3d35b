use Rattle.std.proofs.{Common.{◌∙◌, ap, inl, inr, map, refl, subst}, KnownBytes.Keeps-refl}
use Rattle.text_filters.specs.Program.{SaysMemory}
use Rattle.text_filters.proofs.tool.execute.Goals as goal

pub returns-in-Ok : goal.returns-in-Ok
returns-in-Ok g c =
    inl (rw (ap (map (λ word. word.now)) c.deref.ensures.value ∙ c.in-Ok.ensures)
    at c.execute_words.ensures)

pub returns-in-Err : goal.returns-in-Err
returns-in-Err g c =
    inr (
      (
        Keeps-refl (g.R.ReadWhole.remaining c.args.reader.now),
        refl,
        Keeps-refl (g.W.WriteWhole.contents c.args.output.now),
      ),
      subst (λ about. SaysMemory g.M.WriteWhole.faults about (g.M.WriteWhole.contents c.args.messages.now)
          (g.M.WriteWhole.contents c.complain.new.messages) c.complain.result.said) c.about.ensures
          c.complain.ensures.said,
      c.complain.ensures.fault,
    )
