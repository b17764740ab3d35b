use Rattle.textwrap_base.proofs.minima.queue_case.line_widths_suit.Given as goal
use Rattle.textwrap_text.proofs.Common.{◌≡◌, ℕ, ◌<◌, ◌≤◌, slice_index}
use Rattle.textwrap_base.proofs.Common.{queue_limit}

abbrev pub invariant-loop-number : goal.invariant-loop-number
invariant-loop-number l = record {
  small : (k : ℕ) → k < l.number → slice_index l.line_widths k ≤ queue_limit;
  equal : (k : ℕ) → 1 ≤ k → k < l.number
      → slice_index l.line_widths k ≡ slice_index l.line_widths 1;
}
