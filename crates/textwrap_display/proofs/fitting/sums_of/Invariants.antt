use Rattle.textwrap_display.proofs.fitting.sums_of.Given as goal
use Rattle.textwrap_display.specs.Fitting.{widest_line, widest_word}
use Rattle.textwrap_text.proofs.Common.{sum_by, take, ◌*◌, ◌^◌, ◌≡◌, ◌≤◌}

-- the sums of the columns so far, which are few enough to fit
abbrev pub invariant-loop-need : goal.invariant-loop-need
invariant-loop-need l = record {
  words : l.words ≡ sum_by widest_word (take l.need-index l.needs);
  lines : l.lines ≡ sum_by widest_line (take l.need-index l.needs);
  few_words : l.words ≤ 2 ^ 64 * l.need-index;
  few_lines : l.lines ≤ 2 ^ 64 * l.need-index;
}
