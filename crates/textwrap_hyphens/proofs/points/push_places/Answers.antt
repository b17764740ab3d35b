use Rattle.textwrap_hyphens.proofs.{FewLetters.no-places, Held.held-inner, InnerPoints.places-below}
use Rattle.textwrap_hyphens.{proofs.Parts.no-joints, proofs.Parts.run-points, specs.Hyphenation.joints_of}
use Rattle.textwrap_hyphens.specs.{Hyphenation.part_places, Hyphenation.places_from, Table.held}
use Rattle.textwrap_patterns.specs.{Letters.counts, declared.letters.Letter.Letter}
use Rattle.textwrap_text.proofs.Common.{[], ap, append-nil, arith, filter, length, length-map}
use Rattle.textwrap_text.proofs.Common.{nat_tests, sym, ◌++◌, ◌+◌, ◌<◌, ◌∙◌}
use Rattle.textwrap_hyphens.proofs.points.push_places.Goals as goal

pub push_begins-requires : goal.push_begins-requires
push_begins-requires g c = λ k d within.
    let letters = c.args.letters.now in
    let inner = rw c.in-Some.ensures at (held-inner c.args.patterns.now letters) in
    let size = ap length c.requires.letters ∙ length-map c.args.run.now (λ (c : Letter). c.ch) in
    omega (arith, places-below (length letters) 0 c.in-Some.places.now inner k d within, size)

pub returns-then-not-has_letters : goal.returns-then-not-has_letters
returns-then-not-has_letters g c =
    let h = held c.args.patterns.now in
    let letters = c.args.letters.now in
    let items = c.args.points.now.items in
    let few : length (filter counts letters) < h.left + h.right =
    grind (arith, nat_tests) in
    sym (append-nil items)
    ∙ ap (λ l. items ++ l) (sym (run-points h c.args.run.now letters [] c.requires.letters
    c.in_default.ensures (no-places h letters few 0 (joints_of h letters))))

pub returns : goal.returns
returns g c =
    let h = held c.args.patterns.now in
    let letters = c.args.letters.now in
    rw (run-points h c.args.run.now letters (part_places h letters 0 (length letters))
    c.requires.letters c.in_default.ensures
    (ap (places_from h letters 0) (no-joints h c.requires.joints letters))) c.push_odd.ensures
