use Rattle.textwrap_text.proofs.Common.{append-nil, ap, refl, sym, ◌++◌, ◌∙◌}
use Rattle.textwrap_patterns.specs.Letters.{letters_among}
use Rattle.textwrap_patterns.proofs.letters.letters_of.Goals as goal

pub loop-character-init : goal.loop-character-init
loop-character-init g c =
    rw (
      c.in_ok-letters.ensures.items,
      c.into_iter-character-iterator.ensures.into_iter_gives,
      c.of-character-items.ensures,
    )
    refl

pub returns : goal.returns
returns g c =
    sym (append-nil c.loop-character.letters.items)
    ∙ ap (λ cs. c.loop-character.letters.items ++ letters_among cs) (sym c.in-None.ensures.steps.0)
    ∙ c.loop-character.invariant
