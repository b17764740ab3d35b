use Rattle.textwrap_calls.proofs.Lengths.Sums.{within-limit}
use Rattle.textwrap_calls.proofs.{Common.{arith, rules}, Lengths.Bounds.filled-bounded}
use Rattle.textwrap_calls.proofs.bounds.textwrap_fill_bound.Goals as goal

pub returns-clause-enough : goal.returns-clause-enough
returns-clause-enough c =
    let o = c.args.options.now in
    λ text utf8 len_is filled are.
    within-limit (filled-bounded o c.args.text_len text filled utf8 len_is are)
    (search (rules, arith))
