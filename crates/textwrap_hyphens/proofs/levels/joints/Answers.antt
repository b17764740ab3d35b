use Rattle.textwrap_hyphens.proofs.{Common.sym, Common.◌∙◌, Parts.joints-by, Parts.no-joints}
use Rattle.textwrap_hyphens.specs.Table.{held, levels_by}
use Rattle.textwrap_text.proofs.Numbers.{both}
use Rattle.textwrap_hyphens.proofs.levels.joints.Goals as goal

pub returns-in-Some : goal.returns-in-Some
returns-in-Some g c =
    both c.odd_places.result _ _ _ (λ places one two.
    joints-by (held c.args.patterns.now) (levels_by c.in-Some.trie) c.args.letters.now _
    c.in-Some.ensures one) c.odd_places.ensures c.odd_places.ensures

pub returns-in-None : goal.returns-in-None
returns-in-None g c =
    c.new.ensures.items ∙ sym (no-joints (held c.args.patterns.now) c.in-None.ensures c.args.letters.now)
