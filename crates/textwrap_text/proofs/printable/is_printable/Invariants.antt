use Rattle.textwrap_text.proofs.printable.is_printable.Given as goal
use Rattle.textwrap_text.proofs.Common.{IsPrintableByte, IsPrintable, slice_index, true, ◌<◌, ◌≡◌}
use Rattle.textwrap_text.proofs.Common.{ℕ}

-- it says whether the bytes so far are printable
abbrev pub invariant-loop-byte : goal.invariant-loop-byte
invariant-loop-byte l = record {
  so_far : l.all ≡ true → (k : ℕ) → k < l.byte-index → IsPrintableByte (slice_index l.bytes k);
  all : IsPrintable l.bytes → l.all ≡ true;
}
