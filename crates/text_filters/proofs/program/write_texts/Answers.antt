use Rattle.text_filters.proofs.MessageLemmas.{IsWritten-all, IsWritten-next, IsWritten-none}
use Rattle.text_filters.proofs.MessageLemmas.{IsWritten-prefix}
use Rattle.textwrap_program.proofs.WriteLemmas.{OnErr-from}
use Rattle.text_filters.proofs.program.write_texts.Goals as goal

pub loop-text-init : goal.loop-text-init
loop-text-init g c = IsWritten-none (g.M.WriteWhole.contents c.args.messages.now) c.args.texts.now

pub loop-text-preserved : goal.loop-text-preserved
loop-text-preserved g c =
    IsWritten-next _ _ _ c.args.texts.now c.loop-text.text-index _ c.loop-text-test.true
    c.loop-text.invariant _ c.as_bytes.ensures.value c.in_ok-write_whole.ensures.ok

pub returns-in_err-write_whole-clause-prefix : goal.returns-in_err-write_whole-clause-prefix
returns-in_err-write_whole-clause-prefix g c =
    OnErr-from c.from_residual.result
    (IsWritten-prefix _ _ _ c.args.texts.now c.loop-text.text-index _ c.loop-text-test.true
    c.loop-text.invariant _ c.as_bytes.ensures.value c.in_err-write_whole.ensures.prefix)

pub returns-clause-ok : goal.returns-clause-ok
returns-clause-ok g c =
    IsWritten-all _ _ c.args.texts.now c.loop-text.text-index c.loop-text-test.false
    c.loop-text.invariant
