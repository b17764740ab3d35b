use Rattle.textwrap_calls.proofs.Lengths.Sums.{within-limit}
use Rattle.textwrap_calls.proofs.{Common.{arith, rules, options_settings}, Lengths.Bounds.lines-bounded}
use Rattle.textwrap_calls.proofs.bounds.textwrap_wrap_room_bound.Goals as goal

pub returns-then-hyphens-eq0-clause-enough : goal.returns-then-hyphens-eq0-clause-enough
returns-then-hyphens-eq0-clause-enough c =
    let o = c.args.options.now in
    λ text utf8 len_is lines places are.
    within-limit (lines-bounded o (options_settings o) c.args.text_len text lines
    utf8 len_is are.are).built
    (search (rules, arith))

pub returns-clause-enough : goal.returns-clause-enough
returns-clause-enough c =
    let o = c.args.options.now in
    λ text utf8 len_is lines places are.
    within-limit (lines-bounded o (options_settings o) c.args.text_len text lines
    utf8 len_is are.are).built
    (search (rules, arith))
