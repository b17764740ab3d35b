use Rattle.std.proofs.Common.{arith, rules}
use Rattle.textwrap_calls.proofs.Lengths.{Bounds.rows-within, Sums.within-limit}
use Rattle.textwrap_calls.proofs.bounds.textwrap_wrap_columns_rows_bound.Goals as goal

pub returns-clause-enough : goal.returns-clause-enough
returns-clause-enough c = λ some o gaps text utf8 len_is rows are.
    within-limit (rows-within o gaps c.args.columns some c.args.text_len text utf8 len_is rows are)
    (search (rules, arith))
