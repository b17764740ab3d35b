use Rattle.textwrap_text.proofs.blanks.push_blanks.Given as goal
use Rattle.textwrap_text.proofs.Common.{string_bytes, replicate, blank, ◌++◌, ◌≡◌}

abbrev pub invariant-loop : goal.invariant-loop
invariant-loop g l = string_bytes l.text ≡ string_bytes l.fn.text ++ replicate l.counter blank
