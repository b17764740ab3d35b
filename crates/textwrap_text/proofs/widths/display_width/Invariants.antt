use Rattle.textwrap_text.proofs.widths.display_width.Given as goal
use Rattle.textwrap_text.proofs.Common.{text_width, length, shadow, Utf8, ◌+◌, ◌≡◌}

-- the columns so far, and those of what is left, are the whole
abbrev pub invariant-loop-rest : goal.invariant-loop-rest
invariant-loop-rest l = record {
  columns : text_width l.text ≡ l.width + text_width l.rest;
  utf8 : shadow (Utf8 l.rest);
}

abbrev pub decreases-loop-rest : goal.decreases-loop-rest
decreases-loop-rest l = length l.rest
