use Rattle.textwrap.proofs.refilling.push_joined.Goals as goal
use Rattle.textwrap.proofs.Common.{ends_with, nat_eq, sym, ◌∙◌, ap}
use Rattle.std.proofs.lemmas.Str.Pattern.{ends_text}
use Rattle.textwrap.proofs.Text.Unfilling.{keeps_ending-some}

pub returns-clause-keeps : goal.returns-clause-keeps
returns-clause-keeps g c =
    let text = c.args.text.now in
    ends_text c.ends_with-keeps_ending.result c.as_str.result.now text
    c.ends_with-keeps_ending.ensures.cases ∙ ap (ends_with nat_eq text) c.as_str.ensures
    ∙ sym (keeps_ending-some text c.in-Some.ending
    (sym c.in_ok-ending.ensures.detected ∙ c.in-Some.is))
