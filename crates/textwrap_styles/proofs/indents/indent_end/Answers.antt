use Rattle.textwrap_styles.proofs.indents.indent_end.Goals as goal
use Rattle.std.proofs.lemmas.Str.Pattern.{starts_text}
use Rattle.textwrap_text.proofs.Common.{arith, IsCharBoundary-start, rules}

pub returns-then-starts_with-clause-len : goal.returns-then-starts_with-clause-len
returns-then-starts_with-clause-len c =
    search (rules, arith, starts_text, c.starts_with.ensures.cases, c.if-starts_with.true)

pub returns-else-starts_with-clause-len : goal.returns-else-starts_with-clause-len
returns-else-starts_with-clause-len c =
    search (rules, arith, starts_text, c.starts_with.ensures.cases, c.if-starts_with.false)

pub returns-else-starts_with-clause-boundary : goal.returns-else-starts_with-clause-boundary
returns-else-starts_with-clause-boundary c = IsCharBoundary-start c.args.line.now c.utf8.line
