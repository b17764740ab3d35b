use Rattle.filter_programs.proofs.fill.words.is_all_digits.Given as goal
use Rattle.std.{proofs.Common.drop, proofs.Common.◌≡◌, specs.Str.all_ascii_digits}

-- the bytes to come decide
abbrev pub invariant-loop-byte : goal.invariant-loop-byte
invariant-loop-byte l = all_ascii_digits (drop l.byte-index l.bytes) ≡ all_ascii_digits l.bytes
