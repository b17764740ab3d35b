use Rattle.textwrap_more_calls.proofs.justified_steps.justify_text.Given as goal
use Rattle.textwrap_calls.proofs.Common.{◌≤◌, drop, length, string_bytes, settings_view, bytes_left}
use Rattle.textwrap_calls.proofs.Common.{false, paragraphs_left, ◌≡◌}
use Rattle.textwrap_layout.proofs.Common.{layout_view}
use Rattle.textwrap_more_calls.proofs.TextStepLemmas.{IsJustifiedTo}

abbrev pub invariant-loop-rest : goal.invariant-loop-rest
invariant-loop-rest g l = record {
  so_far : IsJustifiedTo (settings_view l.options) l.steps l.text (string_bytes l.filled.text)
      l.filled.has_lines (paragraphs_left l.options.line_ending l.rest) (drop l.number l.steps);
  within : l.number ≤ length l.steps;
  waits : l.filled.waits ≡ false;
  layout_is : layout_view l.filled.layout ≡ settings_view l.options;
}

abbrev pub decreases-loop-rest : goal.decreases-loop-rest
decreases-loop-rest g l = bytes_left l.rest
