use Rattle.textwrap_styles.proofs.latest.Later.take_back.Goals as goal
use Rattle.textwrap_styles.{proofs.OpenSettings.{any-known, known-below}, specs.Settings.number}
use Rattle.textwrap_text.proofs.Common.{arith, cases_Bool, ◌∙◌}

pub returns-then-self-number : goal.returns-then-self-number
returns-then-self-number g c = λ later are.
    let end = c.common_end-end in
    let known = end.ensures.known ∙ c.requires in
    let any = any-known c.args.kind end.result c.requires known end.ensures.takes later in
    let one = are.kinds (number c.args.kind) (known-below c.args.kind c.requires) in
    grind (arith, cases_Bool, any, one, c.number.ensures.place, c.if-self-number.true)

pub returns-else-self-number : goal.returns-else-self-number
returns-else-self-number g c = λ later are.
    let end = c.common_end-end in
    let known = end.ensures.known ∙ c.requires in
    let any = any-known c.args.kind end.result c.requires known end.ensures.takes later in
    let one = are.kinds (number c.args.kind) (known-below c.args.kind c.requires) in
    let two = are.kinds (number end.result) (known-below end.result known) in
    grind (arith, cases_Bool, any, one, two, c.number.ensures.place, c)
