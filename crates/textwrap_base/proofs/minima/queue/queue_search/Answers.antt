use Rattle.textwrap_text.proofs.Common.{[], ap, arith, length, length_push, rules, ◌++◌, ◌∙◌, ◌∷◌}
use Rattle.textwrap_base.proofs.Search.{AreMinima-all, AreMinima-one, AreMinima-push}
use Rattle.textwrap_base.proofs.minima.queue.queue_search.Goals as goal

pub returns-then-ends-eq0-clause-minima : goal.returns-then-ends-eq0-clause-minima
returns-then-ends-eq0-clause-minima g c =
    let is = c.in_ok-push.ensures.items
    ∙ ap (λ ms. ms ++ record { start = 0; cost = 0 } ∷ []) c.in_ok-minima.ensures.items in
    AreMinima-all _ _ (AreMinima-one _ _ is) (omega (arith, ap length is))

pub reach_last-requires-clause-minima : goal.reach_last-requires-clause-minima
reach_last-requires-clause-minima g c = AreMinima-one _ _ (c.in_ok-push.ensures.items
    ∙ ap (λ ms. ms ++ record { start = 0; cost = 0 } ∷ []) c.in_ok-minima.ensures.items)

pub returns-clause-minima : goal.returns-clause-minima
returns-clause-minima g c = search (rules, arith, AreMinima-all, AreMinima-push, length_push)
