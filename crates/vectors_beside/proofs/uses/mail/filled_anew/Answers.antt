use Rattle.vectors_beside.proofs.Common.{default_algorithm, string_bytes, settings_at, AtHyphens}
use Rattle.vectors_beside.proofs.Common.{refl}
use Rattle.vectors_beside.proofs.uses.mail.filled_anew.Goals as goal

pub returns-clause-filled : goal.returns-clause-filled
returns-clause-filled c = λ plain.
    (c.refilling_is_filling.ensures.refilled (settings_at c.args.width) AtHyphens
    default_algorithm c.args.paragraph.now (string_bytes c.in_ok-filled.filled)
    (record { initial = refl; subsequent = refl }) plain).0
    (c.in_ok-filled.ensures.built_in (settings_at c.args.width) AtHyphens default_algorithm
    c.new.ensures)
