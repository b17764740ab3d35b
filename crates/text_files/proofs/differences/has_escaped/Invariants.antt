use Rattle.textwrap_text.proofs.Common.{◌≡◌, drop, list_any}
use Rattle.text_files.specs.Differences.{is_escaped}
use Rattle.text_files.proofs.differences.has_escaped.Given as goal

-- none of the bytes so far is one
abbrev pub invariant-loop-byte : goal.invariant-loop-byte
invariant-loop-byte l =
    list_any is_escaped (drop l.byte-index l.name) ≡ list_any is_escaped l.name
