use Rattle.textwrap_calls.proofs.texts.strs_of.Given as goal
use Rattle.textwrap_calls.proofs.Common.{bytes_of, drop, ◌++◌, ◌≡◌}
use Rattle.textwrap_display.specs.Tables.{texts_in}

-- the strings so far, and the texts that are left, are all texts
abbrev pub invariant-loop-text : goal.invariant-loop-text
invariant-loop-text l =
    texts_in l.strs.items ++ bytes_of (drop l.text-index l.texts) ≡ bytes_of l.texts
