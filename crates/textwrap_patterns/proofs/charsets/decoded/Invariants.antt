use Rattle.std.proofs.Common.{string_bytes, drop, ◌++◌, ◌≡◌}
use Rattle.textwrap_patterns.specs.Charsets.{decoded}
use Rattle.textwrap_patterns.proofs.charsets.decoded.Given as goal

-- what was decoded, and what is left, are all
abbrev pub invariant-loop-byte : goal.invariant-loop-byte
invariant-loop-byte g l =
    string_bytes l.text ++ decoded l.table (drop l.byte-index l.bytes) ≡ decoded l.table l.bytes
