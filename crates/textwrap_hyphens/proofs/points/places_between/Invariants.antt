use Rattle.textwrap_hyphens.proofs.Common.{◌++◌, ◌≡◌, ◌≤◌, drop, length}
use Rattle.textwrap_hyphens.specs.{Hyphenation.places_from, Table.held}
use Rattle.textwrap_patterns.specs.Places.{IsNextPlace}
use Rattle.textwrap_words.proofs.Common.{AreNext}
use Rattle.textwrap_hyphens.proofs.points.places_between.Given as goal

-- the places so far, and those behind the last joint, are all
abbrev pub invariant-loop-joint : goal.invariant-loop-joint
invariant-loop-joint g l = record {
  places : l.places.items
      ++ places_from (held l.patterns) l.letters l.from (drop l.joint-index l.joints)
      ≡ places_from (held l.patterns) l.letters 0 l.joints;
  joints : AreNext (IsNextPlace (length l.letters)) (drop l.joint-index l.joints) l.from;
  inside : l.from ≤ length l.letters;
}
