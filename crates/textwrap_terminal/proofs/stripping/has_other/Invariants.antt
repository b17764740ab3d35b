use Rattle.textwrap_terminal.proofs.stripping.has_other.Given as goal
use Rattle.textwrap_terminal.specs.TerminalUnits.{has_no_other}
use Rattle.textwrap_text.proofs.Common.{length, shadow, Utf8, ◌≡◌}

-- the text is as what is left of it
abbrev pub invariant-loop-rest : goal.invariant-loop-rest
invariant-loop-rest l = record {
  same : has_no_other l.text ≡ has_no_other l.rest;
  utf8 : shadow (Utf8 l.rest);
}

abbrev pub decreases-loop-rest : goal.decreases-loop-rest
decreases-loop-rest l = length l.rest
