use Rattle.std.specs.Char.{is_whitespace}
use Rattle.textwrap_text.proofs.Common.{position_or_len, ◌≡◌, ◌+◌, drop}
use Rattle.textwrap_dictionaries.proofs.parsing.word_len.Given as goal

abbrev pub invariant-loop-i : goal.invariant-loop-i
invariant-loop-i l =
    position_or_len is_whitespace l.text
    ≡ l.i + position_or_len is_whitespace (drop l.i l.text)
