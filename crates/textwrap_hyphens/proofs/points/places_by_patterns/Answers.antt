use Rattle.textwrap_hyphens.proofs.Common.{ap, arith, filter, length, nat_tests, subst, sym, ◌+◌, ◌<◌, ◌∙◌}
use Rattle.textwrap_hyphens.proofs.{FewLetters.no-places, InnerPoints.{by_patterns-inner, joints-inner}}
use Rattle.textwrap_hyphens.specs.{Hyphenation.{joints_of, places_from}, Table.held}
use Rattle.textwrap_patterns.specs.{Letters.counts, Places.AreInnerPlaces}
use Rattle.textwrap_text.proofs.Numbers.{both}
use Rattle.textwrap_hyphens.proofs.points.places_by_patterns.Goals as goal

pub returns-then-not-has_letters-clause-places : goal.returns-then-not-has_letters-clause-places
returns-then-not-has_letters-clause-places g c =
    let h = held c.args.patterns.now in
    let letters = c.args.letters.now in
    let few : length (filter counts letters) < h.left + h.right =
    grind (arith, nat_tests) in
    c.new.ensures.items ∙ sym (no-places h letters few 0 (joints_of h letters))

pub places_between-requires : goal.places_between-requires
places_between-requires g c =
    let letters = c.args.letters.now in
    subst (AreInnerPlaces (length letters)) (sym (c.deref.ensures.value ∙ c.in_ok-joints.ensures))
    (joints-inner (held c.args.patterns.now) letters)

pub returns-clause-inner : goal.returns-clause-inner
returns-clause-inner g c =
    let h = held c.args.patterns.now in
    let letters = c.args.letters.now in
    both c.places_between.result _ _ _ (λ places one two.
    subst (AreInnerPlaces (length letters)) (sym (one
    ∙ ap (places_from h letters 0) (c.deref.ensures.value ∙ c.in_ok-joints.ensures)))
    (by_patterns-inner h letters)) c.places_between.ensures c.places_between.ensures
