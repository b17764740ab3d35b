use Rattle.textwrap_terminal.proofs.stripping.push_kept.Given as goal
use Rattle.textwrap_terminal.specs.TerminalUnits.{without_other_sequences}
use Rattle.textwrap_text.proofs.Common.{length, shadow, string_bytes, Utf8, ◌++◌, ◌≡◌}

-- the text so far, and what stays of the rest, are the whole
abbrev pub invariant-loop-rest : goal.invariant-loop-rest
invariant-loop-rest g l = record {
  whole : string_bytes l.fn.plain ++ without_other_sequences l.text
      ≡ string_bytes l.plain ++ without_other_sequences l.rest;
  utf8 : shadow (Utf8 l.rest);
}

abbrev pub decreases-loop-rest : goal.decreases-loop-rest
decreases-loop-rest g l = length l.rest
