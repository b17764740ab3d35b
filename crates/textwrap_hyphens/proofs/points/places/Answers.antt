use Rattle.textwrap_hyphens.proofs.{Common.{length, subst, sym}, Held.held-inner}
use Rattle.textwrap_patterns.specs.Places.{AreInnerPlaces}
use Rattle.textwrap_text.proofs.Numbers.{both}
use Rattle.textwrap_hyphens.proofs.points.places.Goals as goal

pub returns-in-Some-clause-inner : goal.returns-in-Some-clause-inner
returns-in-Some-clause-inner g c =
    let letters = c.args.letters.now in
    let inner = rw c.in-Some.ensures at (held-inner c.args.patterns.now letters) in
    both c.from_slice.result _ _ _ (λ places one two.
    subst (AreInnerPlaces (length letters)) (sym one) inner) c.from_slice.ensures.items c.from_slice.ensures.items
