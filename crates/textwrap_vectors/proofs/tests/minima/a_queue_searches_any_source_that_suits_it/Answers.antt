use Rattle.std.proofs.Common.{◌≡◌, ℕ, ◌+◌, ◌*◌, ◌-◌, ◌≤◌, refl, arith}
use Rattle.std.proofs.Math.Nat.{mul-le-mul}
use Rattle.textwrap.specs.Queue.{SuitQueue}
use Rattle.textwrap_vectors.proofs.tests.minima.a_queue_searches_any_source_that_suits_it.Goals as goal

-- lines of x + y and y + z fragments that share y
overlapping : (x y z : ℕ) → (x + y) * (x + y) + (y + z) * (y + z)
    ≤ (x + y + z) * (x + y + z) + y * y
overlapping x y z = omega arith

squares_suit : SuitQueue (record {
  ends = 1000;
  cost = λ start end number. (end - start) * (end - start);
})
squares_suit = record {
  numbers = λ start end number some ordered within later. refl;
  convex = λ a b c d some ab bc cd dn.
      let first : c - a ≡ (b - a) + (c - b) = omega arith in
      let second : d - b ≡ (c - b) + (d - c) = omega arith in
      let both : d - a ≡ (b - a) + (c - b) + (d - c) = omega arith in
      rw (first, second, both) (overlapping (b - a) (c - b) (d - c));
  small = λ start end number ordered within.
      let short : end - start ≤ 1000 = omega arith in
      omega (arith, mul-le-mul short short);
}

pub queue_search-requires : goal.queue_search-requires
queue_search-requires g c = record { suits = squares_suit }
