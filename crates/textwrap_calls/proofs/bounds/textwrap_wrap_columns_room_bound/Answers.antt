use Rattle.textwrap_calls.proofs.bounds.textwrap_wrap_columns_room_bound.Goals as goal
use Rattle.textwrap_calls.proofs.Lengths.{Bounds.room-within, Sums.{sum-as_len, within-limit}}

pub returns-clause-value : goal.returns-clause-value
returns-clause-value c =
    sum-as_len _ _ _ _ _ _ _ _ c.textwrap_wrap_columns_rows_bound.ensures.value
    c.gaps_and_columns.ensures c.bytes_and_indents.ensures c.saturating_mul.ensures
    c.saturating_add.ensures

pub returns-clause-enough : goal.returns-clause-enough
returns-clause-enough c = λ some text utf8 len_is rows are.
    within-limit (room-within c.args.options.now c.args.gaps.now c.args.columns some c.args.text_len
    text utf8
    len_is rows are) (returns-clause-value c)
