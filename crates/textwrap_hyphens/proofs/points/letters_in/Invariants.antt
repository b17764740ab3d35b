use Rattle.textwrap_hyphens.proofs.Common.{◌≡◌, map, take}
use Rattle.textwrap_hyphens.proofs.points.letters_in.Given as goal

abbrev pub invariant-loop-letter : goal.invariant-loop-letter
invariant-loop-letter g l = l.letters.items ≡ map (λ c. c.ch) (take l.letter-index l.run)
