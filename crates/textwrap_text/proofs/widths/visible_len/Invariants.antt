use Rattle.textwrap_text.proofs.widths.visible_len.Given as goal
use Rattle.textwrap_text.proofs.Common.{characters_left, shown_text, stripped, length, ◌+◌, ◌≡◌}

-- the bytes so far, and those of the characters to come, are the whole
abbrev pub invariant-loop-character : goal.invariant-loop-character
invariant-loop-character l =
    l.len + length (shown_text (characters_left l.character-iterator)) ≡ length (stripped l.text)
