use Rattle.textwrap_calls.proofs.texts.place_all.Goals as goal
use Rattle.textwrap_calls.proofs.TextLemmas.{texts-push}
use Rattle.textwrap_calls.proofs.{Common.texts_of, PlaceLemmas.ArePlacedRows-push}

pub loop-line-preserved : goal.loop-line-preserved
loop-line-preserved c =
    ArePlacedRows-push (texts_of c.loop-line.yielded) c.deref.result.now
    (texts-push c.loop-line.yielded c.in-Some.line c.deref.result.now c.deref.ensures.value)
    c.loop-line.invariant c.in_ok-push_built.ensures.places c.in_ok-push_built.ensures.built

pub loop-line-preserved-in_ok-push_built : goal.loop-line-preserved-in_ok-push_built
loop-line-preserved-in_ok-push_built c =
    ArePlacedRows-push (texts_of c.loop-line.yielded) c.deref.result.now
    (texts-push c.loop-line.yielded c.in-Some.line c.deref.result.now c.deref.ensures.value)
    c.loop-line.invariant c.in_ok-push_built.ensures.places c.in_ok-push_built.ensures.built
