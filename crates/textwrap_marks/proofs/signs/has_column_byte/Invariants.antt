use Rattle.textwrap_marks.proofs.signs.has_column_byte.Given as goal
use Rattle.textwrap_marks.proofs.Common.{list_any, drop, ◌||◌, ◌≡◌}
use Rattle.textwrap_marks.specs.Signs.{is_column_byte}

-- with the bytes that are left, it says whether any byte is one
abbrev pub invariant-loop-byte : goal.invariant-loop-byte
invariant-loop-byte l = (l.any || list_any is_column_byte (drop l.byte-index l.bytes))
    ≡ list_any is_column_byte l.bytes
