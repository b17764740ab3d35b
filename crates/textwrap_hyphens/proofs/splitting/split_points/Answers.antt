use Rattle.textwrap_hyphens.proofs.SplitPoints.{among, inner-increasing, own-inner, split-inner, split-more}
use Rattle.textwrap_hyphens.proofs.SplitPoints.{split-plain}
use Rattle.textwrap_hyphens.proofs.splitting.split_points.Goals.{else-is_among+else-is_among-2}
use Rattle.textwrap_hyphens.proofs.splitting.split_points.Goals.{then-is_among+in_ok-push}
use Rattle.textwrap_hyphens.proofs.splitting.split_points.Goals.{then-is_among-via-then-is_among}
use Rattle.textwrap_hyphens.proofs.splitting.split_points.Goals.{then-is_among-via-else-is_among+then-is_among-2}
use Rattle.textwrap_hyphens.specs.{Outside.hyphens_outside, Splitting.is_split_point, Table.held}
use Rattle.textwrap_text.proofs.Common.{Bool, List, [], ap, arith, cond, false, filter, length, nil_from_length}
use Rattle.textwrap_text.proofs.Common.{range_with_len, sym, true, ℕ, ◌+◌, ◌++◌, ◌-◌, ◌||◌, ◌∙◌, ◌∷◌, ◌≡◌}
use Rattle.textwrap_words.proofs.Word.Cuts.{inner-cuts}
use Rattle.textwrap_hyphens.proofs.splitting.split_points.Goals as goal

pub returns-then-is_empty-clause-points : goal.returns-then-is_empty-clause-points
returns-then-is_empty-clause-points g c =
    let found = c.in_ok-found.ensures in
    let none = nil_from_length c.in_ok-hyphens.hyphens.items (grind arith) in
    found.points ∙ sym (split-plain (held c.args.patterns.now) c.args.word.now
    (rw found.points at found.cuts) (sym c.in_ok-hyphens.ensures.points ∙ none))

pub returns-then-is_empty-clause-cuts : goal.returns-then-is_empty-clause-cuts
returns-then-is_empty-clause-cuts g c = inner-cuts _ _ c.in_ok-found.ensures.cuts

pub is_among-requires : goal.is_among-requires
is_among-requires g c =
    rw c.deref.ensures.value (inner-increasing c.args.word.now _ c.in_ok-found.ensures.cuts)

pub is_among-requires-else-is_among : goal.is_among-requires-else-is_among
is_among-requires-else-is_among g c =
    rw c.deref-else-is_among.ensures.value (inner-increasing c.args.word.now _
    (rw c.in_ok-hyphens.ensures.points (own-inner c.args.word.now c.utf8.word)))

-- the point is looked at in both lists, unless it is in the first
pub loop-point-preserved : goal.loop-point-preserved
loop-point-preserved g c = record {
  points = elim c.if-is_among.branch [
    | then-is_among+in_ok-push w ↦ more true (elim w.then-is_among.branch [
      | then-is_among-via-then-is_among w' ↦ grind arith
      | then-is_among-via-else-is_among+then-is_among-2 w' ↦ grind arith
    ]) (grind arith)
    | else-is_among+else-is_among-2 w ↦ more false (grind arith) (grind arith)
  ];
  inside = omega arith;
}
  where
    point : ℕ
    point = c.loop-point.point

    own : Bool
    own = among (hyphens_outside c.args.word.now) point

    so_far : List ℕ
    so_far = c.loop-point.points.items

    now : List ℕ
    now = c.if-is_among.points.items

    more : (b : Bool) → b ≡ (c.is_among.result || own) → now ≡ cond b (so_far ++ point ∷ []) so_far
        → now ≡ filter (is_split_point (held c.args.patterns.now) c.args.word.now)
        (range_with_len 1 (point + 1 - 1))
    more b is grown =
        split-more (held c.args.patterns.now) c.args.word.now point so_far now b (omega arith)
        (omega arith) c.loop-point.invariant.points (is ∙ ap (λ found. found || own) (grind arith))
        grown

pub returns-clause-cuts : goal.returns-clause-cuts
returns-clause-cuts g c =
    let text = c.args.word.now in
    let found = c.in_ok-found.ensures in
    let inner =
    split-inner (held c.args.patterns.now) text (rw found.points at found.cuts) c.utf8.word in
    let whole : c.loop-point.point - 1 ≡ length text - 1 = omega arith in
    inner-cuts text c.loop-point.points.items (rw c.loop-point.invariant.points
    (rw whole inner))
