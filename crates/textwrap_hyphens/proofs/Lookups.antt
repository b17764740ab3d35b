-- How often letters are looked up.
use Rattle.std.proofs.Common.{arith, min, ℕ, ◌+◌, ◌-◌, ◌≤◌, ◌*◌}

-- fewer times the same is no more
pub fewer-times : (few many each : ℕ) → few ≤ many → few * each ≤ many * each
fewer-times few many each le = grind arith

-- the look-ups at one place more, of which the last has no letter
pub lookups-more : (at len most : ℕ)
    → min at len * most + min (len - at) most ≤ min (at + 1) len * most
lookups-more at len most = grind arith
