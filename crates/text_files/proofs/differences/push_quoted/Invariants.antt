use Rattle.textwrap_text.proofs.Common.{◌≡◌, ◌++◌, take, flat_map}
use Rattle.text_files.specs.Differences.{quoted_byte}
use Rattle.text_files.proofs.differences.push_quoted.Given as goal

-- the bytes so far were added
abbrev pub invariant-loop-byte : goal.invariant-loop-byte
invariant-loop-byte g l =
    l.text.items ≡ l.initial.text.items ++ flat_map quoted_byte (take l.byte-index l.name)
