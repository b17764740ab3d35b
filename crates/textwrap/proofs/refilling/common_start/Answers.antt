use Rattle.textwrap.proofs.refilling.common_start.Goals as goal
use Rattle.textwrap.proofs.Common.{YieldsList-from_take_while, IsCharBoundary-from_ascii, nat_eq}
use Rattle.textwrap.proofs.Common.{count_from_yields_List, YieldsList-from_bytes, common_prefix_len}
use Rattle.textwrap.proofs.Common.{YieldsList-from_zip, length-prefix_len, from_start, rules, tests}
use Rattle.textwrap.proofs.Common.{take, zip, ◌∙◌, ◌≡◌, ap}
use Rattle.std.proofs.lemmas.List.Sums.{common_prefix_len-le}
use Rattle.textwrap_text.proofs.Lists.Parts.{zip-common}
use Rattle.textwrap.proofs.refilling.common_start.Goals.{After-count-len}

-- the bytes that are counted are those that both texts begin with
counted : (c : After-count-len)
    → c.count-len.result ≡ common_prefix_len nat_eq c.args.first.now c.args.second.now
counted c =
    let first = c.args.first.now in
    let second = c.args.second.now in
    count_from_yields_List c.take_while.result _ c.count-len.ensures.ran
    (YieldsList-from_take_while _ (λ p. nat_eq p.0 p.1)
    (YieldsList-from_zip (YieldsList-from_bytes first (cc)) (YieldsList-from_bytes second (cc)))
    c.take_while.ensures.closure c.take_while.ensures.done (λ x b q k. search (rules, tests)))
    ∙ length-prefix_len (λ p. nat_eq p.0 p.1) (zip first second) ∙ zip-common first second

pub range-requires-clause-end_boundary : goal.range-requires-clause-end_boundary
range-requires-clause-end_boundary c =
    let first = c.args.first.now in
    rw (counted (goal.at.range-requires-clause-end_boundary c).After-count-len)
    (IsCharBoundary-from_ascii first (common_prefix_len nat_eq first c.args.second.now) c.requires
    (common_prefix_len-le nat_eq first c.args.second.now).0)

pub returns : goal.returns
returns c = c.range.ensures.value ∙ from_start c.args.first.now c.count-len.result
    ∙ ap (λ n. take n c.args.first.now) (counted (goal.at.returns c).After-count-len)
