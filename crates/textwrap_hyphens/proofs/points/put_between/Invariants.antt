use Rattle.textwrap_hyphens.proofs.Common.{ℕ, ◌+◌, ◌<◌, ◌∷◌, ◌≡◌, get_or, length, map, take}
use Rattle.textwrap_hyphens.specs.Levels.{dot}
use Rattle.textwrap_hyphens.proofs.points.put_between.Given as goal

-- a dot and the letters so far, and dots behind them
abbrev pub invariant-loop-at : goal.invariant-loop-at
invariant-loop-at l = record {
  letters : take (l.at + 1) l.room ≡ dot ∷ map (λ c. c.ch) (take l.at l.run);
  dots : (k : ℕ) → l.at < k → k < length l.room → get_or l.room k 0 ≡ dot;
}
