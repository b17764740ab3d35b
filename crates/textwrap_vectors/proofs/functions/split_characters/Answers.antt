use Rattle.std.proofs.lemmas.Result.{IfOk-weaker}
use Rattle.textwrap.specs.Cuts.{AreCuts, AreInnerCuts}
use Rattle.textwrap.proofs.Cutting.{inner-cuts}
use Rattle.textwrap_vectors.proofs.functions.split_characters.Goals as goal

pub returns-clause-cuts : goal.returns-clause-cuts
returns-clause-cuts c =
    IfOk-weaker c.cut_characters.result (λ cuts. AreInnerCuts c.args.word.now cuts.items)
    (λ points. AreCuts c.args.word.now points.items)
    (λ cuts are. inner-cuts c.args.word.now cuts.items are) c.cut_characters.ensures.inner
