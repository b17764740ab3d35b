use Rattle.textwrap_text.proofs.Common.{drop, ◌++◌, ◌≡◌}
use Rattle.textwrap_patterns.specs.Charsets.{plain_name}
use Rattle.textwrap_patterns.proofs.charsets.plain_name.Given as goal

-- what was read, and what is left, are all
abbrev pub invariant-loop-byte : goal.invariant-loop-byte
invariant-loop-byte g l =
    l.name.items ++ plain_name (drop l.byte-index l.line) ≡ plain_name l.line
