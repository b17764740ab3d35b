use Rattle.textwrap_text.proofs.Common.{◌+◌, arith, map, length-map}
use Rattle.text_files.proofs.{DiffNearest.nearest-next, DiffRuns.same-within}
use Rattle.text_files.specs.Differences.{IsNearestBefore, place_in}
use Rattle.text_files.proofs.differences.change_lens.Goals as goal

pub loop-at-preserved : goal.loop-at-preserved
loop-at-preserved g c =
    let old = map (λ line. line.now) c.args.old.now in
    let new = map (λ line. line.now) c.args.new.now in
    let olds = c.in_ok-note_line.ensures c.loop-at.invariant.olds in
    let news = c.in_ok-note_line-2.ensures c.loop-at.invariant.news in
    let one = c.nearest_with-old_len in
    let two = c.nearest_with-new_len in
    let nearest : IsNearestBefore (c.loop-at.at + 1) old new two.result.1 two.result.0 =
    nearest-next old new c.loop-at.at (place_in c.note_line.new.places)
    (place_in c.note_line-in-loop-at.new.places) olds news c.loop-at.removed c.loop-at.added one.result.0
    one.result.1 two.result.1 two.result.0 c.loop-at.invariant.nearest one.ensures.one_of
    one.ensures.nearer one.ensures.here two.ensures.one_of two.ensures.nearer two.ensures.here in
    let within = same-within old new two.result.1 two.result.0 nearest.same in
    let old_len = length-map c.args.old.now (λ line. line.now) in
    let new_len = length-map c.args.new.now (λ line. line.now) in
    record {
      old = omega (arith, within.0, old_len);
      new = omega (arith, within.1, new_len);
      olds = olds;
      news = news;
      nearest = nearest;
    }
