use Rattle.textwrap_lines.proofs.steps.points.points_between.Goals as goal
use Rattle.textwrap_lines.proofs.Common.{arith, drop, length, length-drop, rules, subst, sym, take}
use Rattle.textwrap_lines.proofs.Common.{◌-◌, ◌≡◌}
use Rattle.textwrap_text.proofs.Common.{take_all}
use Rattle.std.proofs.lemmas.List.Sorted.{IsNonDecreasingBy-drop, IsPartitionPoint-from_clause}
use Rattle.std.proofs.lemmas.List.Sorted.{IsPartitionedBy-leb, IsPartitionedBy-ltb}
use Rattle.std.specs.List.Sorted.{IsNonDecreasing}
use lib.Dec.{leb, ltb}
use Rattle.textwrap_lines.proofs.InSteps.{between-are}

pub returns : goal.returns
returns c =
    let points = c.args.points.now in
    let start = c.args.start in
    let end = c.args.end in
    let i = c.partition_point.result in
    let later = take (length points - i) (drop i points) in
    let is : later ≡ drop i points = take_all (length points - i) (drop i points)
    (omega (arith, length-drop i points)) in
    let up_later : IsNonDecreasing later =
    subst IsNonDecreasing (sym is) (IsNonDecreasingBy-drop (λ x. x) i points c.requires) in
    between-are points later i c.partition_point-2.result start end is
    c.partition_point.ensures.bound c.partition_point-2.ensures.bound
    (IsPartitionPoint-from_clause (λ p. leb p start) points i
    c.partition_point.ensures.partitioned (IsPartitionedBy-leb (λ x. x) points start c.requires)
    (search rules)) (IsPartitionPoint-from_clause (λ p. ltb p end) later c.partition_point-2.result
    c.partition_point-2.ensures.partitioned (IsPartitionedBy-ltb (λ x. x) later end up_later)
    (search rules))
