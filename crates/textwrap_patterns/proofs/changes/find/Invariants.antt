use Rattle.textwrap_text.proofs.Common.{◌≡◌, ◌+◌, drop}
use Rattle.textwrap_patterns.specs.Changes.{before}
use Rattle.textwrap_patterns.proofs.changes.find.Given as goal

abbrev pub invariant-loop-i : goal.invariant-loop-i
invariant-loop-i l =
    before l.wanted l.characters ≡ l.i + before l.wanted (drop l.i l.characters)
