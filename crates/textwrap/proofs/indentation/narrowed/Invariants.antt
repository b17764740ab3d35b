use Rattle.textwrap.proofs.indentation.narrowed.Given as goal
use Rattle.textwrap.proofs.Common.{encode_utf8_all, length, chars, drop, take, ◌++◌, ◌≡◌}
use Rattle.textwrap.specs.Indentation.{narrowed}

-- the characters so far are the same in both
abbrev pub invariant-loop-ours : goal.invariant-loop-ours
invariant-loop-ours l = record {
  len : l.len ≡ length (encode_utf8_all (take (length l.yielded) (chars l.margin)));
  same : take (length l.yielded) (chars l.margin)
      ++ narrowed (drop (length l.yielded) (chars l.margin))
      (drop (length l.yielded) (chars l.line)) ≡ narrowed (chars l.margin) (chars l.line);
}
