use Rattle.textwrap_styles.proofs.settings.code.Given as goal
use Rattle.textwrap_styles.proofs.Common.{digits_value}
use Rattle.textwrap_text.proofs.Common.{◌≡◌, min, take}

-- the number that the digits so far write
abbrev pub invariant-loop-byte : goal.invariant-loop-byte
invariant-loop-byte l = l.code ≡ min 255 (digits_value 10 (take l.byte-index l.byte-items))
