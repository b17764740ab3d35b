use Rattle.textwrap_calls.proofs.texts.are_utf8.Goals as goal
use Rattle.textwrap_calls.{proofs.TextLemmas.next-holds, specs.Texts.IsText}

pub loop-text-preserved : goal.loop-text-preserved
loop-text-preserved c =
    next-holds IsText c.args.texts.now _ c.loop-text.invariant c.loop-text-test.true
    c.in-Ok.ensures.1
