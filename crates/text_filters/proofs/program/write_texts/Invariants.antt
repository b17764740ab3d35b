use Rattle.text_filters.proofs.MessageLemmas.{IsWritten}
use Rattle.text_filters.proofs.program.write_texts.Given as goal

abbrev pub invariant-loop-text : goal.invariant-loop-text
invariant-loop-text g l =
    IsWritten (g.M.WriteWhole.contents l.fn.messages) (g.M.WriteWhole.contents l.messages) l.texts l.text-index
