use Rattle.std.proofs.{KnownBytes.Appends-trans, lemmas.Result.{on_err_weaker, on_ok_weaker}}
use Rattle.textwrap_program.proofs.WriteLemmas.{OnErr-from, WritesPrefix-after, WritesPrefix-longer}
use Rattle.text_filters.proofs.program.write_message.Goals as goal

pub returns-in_err-write_texts-clause-prefix : goal.returns-in_err-write_texts-clause-prefix
returns-in_err-write_texts-clause-prefix g c =
    OnErr-from c.from_residual.result
    (WritesPrefix-longer _ _ _ _ c.in_err-write_texts.ensures.prefix)

pub returns-in_err-write_texts-2-clause-prefix : goal.returns-in_err-write_texts-2-clause-prefix
returns-in_err-write_texts-2-clause-prefix g c =
    OnErr-from c.from_residual-in_err-write_texts-2.result
    (WritesPrefix-after _ _ _ _ _ c.in_ok-write_texts.ensures.ok
    (WritesPrefix-longer _ _ _ _ c.in_err-write_texts-2.ensures.prefix))

pub returns-clause-ok : goal.returns-clause-ok
returns-clause-ok g c =
    on_ok_weaker c.write_whole.result
    (λ said. Appends-trans _ _ _ _ _ c.in_ok-write_texts.ensures.ok
    (Appends-trans _ _ _ _ _ c.in_ok-write_texts-2.ensures.ok said))
    c.write_whole.ensures.ok

pub returns-clause-prefix : goal.returns-clause-prefix
returns-clause-prefix g c =
    on_err_weaker c.write_whole.result
    (λ said. WritesPrefix-after _ _ _ _ _ c.in_ok-write_texts.ensures.ok
    (WritesPrefix-after _ _ _ _ _ c.in_ok-write_texts-2.ensures.ok said))
    c.write_whole.ensures.prefix
