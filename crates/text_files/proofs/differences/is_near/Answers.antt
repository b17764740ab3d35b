use Rattle.std.proofs.Common.{◌≡◌, ◌∙◌, ap, arith, below_more, length, map, sym, ◌<◌}
use Rattle.std.proofs.lemmas.List.{length-map}
use Rattle.text_files.specs.Differences.{is_change, signed_view}
use Rattle.text_files.proofs.DiffLines.{change-within, sign_at-view}
use Rattle.text_files.proofs.differences.is_near.Goals as goal

pub returns-then-is_change : goal.returns-then-is_change
returns-then-is_change c =
    let lines = c.args.lines.now in (
      c.loop-place.place,
      ap is_change (sign_at-view lines c.loop-place.place _ (omega arith)) ∙ sym c.is_change.ensures
          ∙ c.if-is_change.true,
      omega arith,
      omega arith,
    )

pub loop-place-preserved : goal.loop-place-preserved
loop-place-preserved c =
    let lines = c.args.lines.now in
    below_more _ _ c.loop-place.invariant
    (λ from. ap is_change (sign_at-view lines c.loop-place.place _ (omega arith))
    ∙ sym c.is_change.ensures ∙ c.if-is_change.false)

pub returns : goal.returns
returns c (change, is, above, below) =
    let lines = c.args.lines.now in
    let within : change < length (map signed_view lines) = change-within (map signed_view lines) change is in
    let len : length (map signed_view lines) ≡ length lines = length-map lines signed_view in
    let kept = c.loop-place.invariant change (omega arith) (omega arith) in
    cc
