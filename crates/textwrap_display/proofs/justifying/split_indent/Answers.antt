use Rattle.textwrap_display.proofs.justifying.split_indent.Goals as goal
use Rattle.textwrap_display.proofs.{Common.BlanksBetween, Common.indent_len, WidenedWords.indent-boundary}
use Rattle.textwrap_display.proofs.{WidenedWords.indent-is, justifying.split_indent.Goals.After-blanks_end}
use Rattle.textwrap_text.proofs.Common.{ap, arith, drop, length, rules, take, ◌∙◌, ◌≡◌}

blanks : (c : After-blanks_end) → BlanksBetween c.args.line.now 0 c.blanks_end.result
blanks c = rw c.as_bytes.ensures.value at c.blanks_end.ensures.blanks

at : (c : After-blanks_end) → c.blanks_end.result ≡ indent_len c.args.line.now
at c = indent-is c.args.line.now c.blanks_end.result (omega (arith, ap length c.as_bytes.ensures.value))
    (blanks c) (rw c.as_bytes.ensures.value at c.blanks_end.ensures.stops)

pub split_at-requires : goal.split_at-requires
split_at-requires c = search (rules, arith, indent-boundary, blanks, c.as_bytes.ensures.value)

pub returns-clause-indent : goal.returns-clause-indent
returns-clause-indent c = c.split_at.ensures.front
    ∙ ap (λ n. take n c.args.line.now) (at (goal.at.returns-clause-indent c).After-blanks_end)

pub returns-clause-rest : goal.returns-clause-rest
returns-clause-rest c = c.split_at.ensures.back
    ∙ ap (λ n. drop n c.args.line.now) (at (goal.at.returns-clause-rest c).After-blanks_end)
