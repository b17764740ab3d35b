use Rattle.textwrap_text.proofs.widths.strip_ansi_escape_sequences.Given as goal
use Rattle.textwrap_text.proofs.Common.{characters_left, string_bytes, shown_text, stripped, ◌++◌}
use Rattle.textwrap_text.proofs.Common.{◌≡◌}

-- the text so far, and that of the characters to come, are the whole
abbrev pub invariant-loop-character : goal.invariant-loop-character
invariant-loop-character g l =
    string_bytes l.plain ++ shown_text (characters_left l.character-iterator) ≡ stripped l.text
