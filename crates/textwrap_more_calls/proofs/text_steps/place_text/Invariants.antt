use Rattle.textwrap_more_calls.proofs.text_steps.place_text.Given as goal
use Rattle.textwrap_calls.proofs.Common.{◌≤◌, drop, length, settings_view, bytes_left}
use Rattle.textwrap_calls.proofs.Common.{paragraphs_left}
use Rattle.textwrap_more_calls.proofs.TextStepLemmas.{has_lines, HasTextLines}

abbrev pub invariant-loop-rest : goal.invariant-loop-rest
invariant-loop-rest g l = record {
  so_far : HasTextLines (settings_view l.options) l.steps l.text l.lines (has_lines l.lines) l.start
      (paragraphs_left l.options.line_ending l.rest) (drop l.number l.steps);
  within : l.number ≤ length l.steps;
}

abbrev pub decreases-loop-rest : goal.decreases-loop-rest
decreases-loop-rest g l = bytes_left l.rest
