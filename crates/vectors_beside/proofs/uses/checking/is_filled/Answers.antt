use Rattle.vectors_beside.proofs.Common.{default_algorithm, string_bytes, settings_at, AtHyphens}
use Rattle.vectors_beside.proofs.Common.{rules, ◌≡◌}
use Rattle.vectors_beside.proofs.uses.checking.is_filled.Goals as goal

pub returns-clause-yes : goal.returns-clause-yes
returns-clause-yes c = λ yes.
    let result = c.in_ok-filled.ensures.built_in (settings_at c.args.width) AtHyphens
    default_algorithm c.new.ensures in
    search (rules, result, yes)

pub returns-clause-no : goal.returns-clause-no
returns-clause-no c = λ no filled.
    let result = c.in_ok-filled.ensures.built_in (settings_at c.args.width) AtHyphens
    default_algorithm c.new.ensures in
    let same : string_bytes c.in_ok-filled.filled ≡ c.args.text.now =
    c.lines_are_unique.ensures.filled (settings_at c.args.width) default_algorithm AtHyphens
    c.args.text.now (string_bytes c.in_ok-filled.filled) c.args.text.now result filled in
    search (rules, same, no)
