use Rattle.textwrap_styles.proofs.styles.push_link.Goals as goal
use Rattle.textwrap_styles.proofs.{LinkIds.with_id-is, Sequences.link_start}
use Rattle.textwrap_text.proofs.{Common.{append_assoc, arith, cases_Bool, rules}, Lists.Parts.stripped_prefix}

pub returns-then-names_id : goal.returns-then-names_id
returns-then-names_id g c = λ is.
    let front = stripped_prefix link_start c.args.link.now c.in-Some.fields.now c.in-Some.ensures.cases in
    let own = with_id-is c.args.number c.args.link.now c.in-Some.fields.now front in
    search (rules, arith, cases_Bool, own, c.names_id.ensures, c.if-names_id.true, c.as_bytes.ensures.value)

pub returns : goal.returns
returns g c = λ is.
    let front = stripped_prefix link_start c.args.link.now c.in-Some.fields.now c.in-Some.ensures.cases in
    let new = with_id-is c.args.number c.args.link.now c.in-Some.fields.now front in
    search (rules, arith, cases_Bool, append_assoc, new, c.names_id.ensures, c.if-names_id.false)
