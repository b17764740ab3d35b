use Rattle.textwrap_calls.proofs.Common.{options_settings}
use Rattle.textwrap_calls.proofs.Lengths.{Bounds.lines-bounded, Sums.within-limit}
use Rattle.textwrap_calls.proofs.bounds.textwrap_wrap_lines_bound.Goals as goal

pub returns-clause-enough : goal.returns-clause-enough
returns-clause-enough c = λ o text utf8 len_is lines places are.
    within-limit (lines-bounded o (options_settings o) c.args.text_len text lines
    utf8 len_is are.are).count
    c.saturating_add.ensures
