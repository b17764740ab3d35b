use Rattle.textwrap_calls.proofs.texts.lines_of.Given as goal
use Rattle.textwrap_calls.proofs.Common.{◌≡◌, ◌++◌, drop, bytes_of, texts_of}

-- the lines so far, and the texts that are left, are all texts
abbrev pub invariant-loop-text : goal.invariant-loop-text
invariant-loop-text l =
    texts_of l.lines.items ++ bytes_of (drop l.text-index l.texts) ≡ bytes_of l.texts
