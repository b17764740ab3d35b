use Rattle.textwrap_patterns.specs.Charsets.{is_line_feed_byte}
use Rattle.textwrap_text.proofs.Common.{drop, ◌+◌, ◌≡◌, position_or_len}
use Rattle.textwrap_patterns.proofs.charsets.line_len.Given as goal

abbrev pub invariant-loop-i : goal.invariant-loop-i
invariant-loop-i l =
    position_or_len is_line_feed_byte l.bytes ≡ l.i + position_or_len is_line_feed_byte (drop l.i l.bytes)
