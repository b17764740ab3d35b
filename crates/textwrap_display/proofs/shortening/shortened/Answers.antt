use Rattle.textwrap_display.proofs.shortening.shortened.Goals as goal
use Rattle.textwrap_display.proofs.ShortenedLines.{kept-boundary}
use Rattle.textwrap_text.proofs.Common.{arith, rules}

pub range-kept-requires-clause-end_boundary : goal.range-kept-requires-clause-end_boundary
range-kept-requires-clause-end_boundary g c = kept-boundary c.kept_len.ensures c.utf8.line

pub returns : goal.returns
returns g c = search (
  rules,
  arith,
  c.kept_len.ensures,
  c.in_ok-closing.ensures,
  c.in_ok-push_str-3.ensures.bytes,
  c.in_ok-push_str-2.ensures.bytes,
  c.in_ok-push_str.ensures.bytes,
  c.in_ok-text.ensures.bytes,
  c.range-kept.ensures.value,
)
