use Rattle.textwrap.proofs.refilling.line_prefix.Goals as goal
use Rattle.textwrap.proofs.Common.{YieldsList-from_take_while, count_from_yields_List, from_start}
use Rattle.textwrap.proofs.Common.{prefix_len, rules, tests, take, ◌∙◌, ◌≡◌, ap, length-prefix_len}
use Rattle.textwrap.proofs.{Text.Unfilling.line_prefix-boundary, Common.YieldsList-from_bytes}
use Rattle.textwrap.proofs.{refilling.line_prefix.Goals.After-count-len, Common.is_prefix_character}

-- the bytes that are counted are the prefix characters
counted : (c : After-count-len)
    → c.count-len.result ≡ prefix_len is_prefix_character c.args.line.now
counted c = count_from_yields_List c.take_while.result _ c.count-len.ensures.ran
    (YieldsList-from_take_while _ is_prefix_character (YieldsList-from_bytes c.args.line.now (cc))
    c.take_while.ensures.closure c.take_while.ensures.done (λ x b q k. search (rules, tests)))
    ∙ length-prefix_len is_prefix_character c.args.line.now

pub range-requires-clause-end_boundary : goal.range-requires-clause-end_boundary
range-requires-clause-end_boundary c =
    rw (counted (goal.at.range-requires-clause-end_boundary c).After-count-len)
    (line_prefix-boundary c.args.line.now c.utf8.line)

pub returns : goal.returns
returns c = c.range.ensures.value ∙ from_start c.args.line.now c.count-len.result
    ∙ ap (λ n. take n c.args.line.now) (counted (goal.at.returns c).After-count-len)
