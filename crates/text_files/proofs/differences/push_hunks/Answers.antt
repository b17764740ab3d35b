use Rattle.textwrap_text.proofs.Common.{◌≡◌, ◌∙◌, ◌-◌, ◌<◌, ◌≤◌, ap, arith, drop, length, map}
use Rattle.textwrap_text.proofs.Common.{subst, sym, take, ℕ, List, length-map}
use Rattle.text_files.proofs.DiffHunks.{HasPushed-all, HasPushed-next, hunk-found, lens-part}
use Rattle.text_files.proofs.{DiffHunks.not_below, DiffHunks.view-part, DiffRuns.lean-part}
use Rattle.text_files.specs.Differences.{IsNear, SignedText, news, olds, signed_view}
use Rattle.text_files.specs.declared.differences.SignedLine.{SignedLine}
use Rattle.text_files.proofs.differences.push_hunks.Goals as goal

length-lines : (lines : List SignedLine) → length (map signed_view lines) ≡ length lines
length-lines lines = length-map lines signed_view

lens-view : (lines : List SignedLine) (first last old_len new_len : ℕ) → first ≤ last
    → last ≤ length lines
    → old_len ≡ length (olds (map signed_view (take (last - first) (drop first lines))))
    → new_len ≡ length (news (map signed_view (take (last - first) (drop first lines))))
    → (old_len ≤ last - first) × (new_len ≤ last - first)
lens-view lines first last old_len new_len order within old_is new_is =
    let len = length-lines lines in
    let most = lens-part (map signed_view lines) first last order (omega arith) in (
      rw (ap (λ ls. length (olds ls)) (sym (view-part lines first last)) ∙ sym old_is) at most.0,
      rw (ap (λ ls. length (news ls)) (sym (view-part lines first last)) ∙ sym new_is) at most.1,
    )

-- a line near a change is followed by one that is not, or by none
pub returns-then-first-last : goal.returns-then-first-last
returns-then-first-last g c lean =
    let lines : List SignedText = map signed_view c.args.lines.now in
    let first = c.next_place-first.result in
    let same : first ≡ c.next_place-last.result = omega arith in
    let past : length c.args.lines.now ≤ first = not_below first (length c.args.lines.now)
    (λ less. subst (λ n. n < length c.args.lines.now → ¬ IsNear lines n) (sym same)
    c.next_place-last.ensures.here less (c.next_place-first.ensures.here less)) in
    HasPushed-all lines _ _ c.loop-at.at c.loop-at.old_start c.loop-at.new_start
    c.loop-at.invariant.pushed
    (λ k below from. c.next_place-first.ensures.passed k
    (let len = length-lines c.args.lines.now in omega arith) from)
    (λ first last. lean-part lines first last lean)

pub overflow_add-old_start-in-loop-at : goal.overflow_add-old_start-in-loop-at
overflow_add-old_start-in-loop-at g c =
    let lens = lens-view c.args.lines.now c.next_place-first.result c.next_place-last.result
    c.old_len-old_len.result c.new_len-new_len.result (omega arith) (omega arith) c.old_len-old_len.ensures
    c.new_len-new_len.ensures in
    omega arith

pub overflow_add-new_start-in-loop-at : goal.overflow_add-new_start-in-loop-at
overflow_add-new_start-in-loop-at g c =
    let lens = lens-view c.args.lines.now c.next_place-first.result c.next_place-last.result
    c.old_len-old_len.result c.new_len-new_len.result (omega arith) (omega arith) c.old_len-old_len.ensures
    c.new_len-new_len.ensures in
    omega arith

pub loop-at-preserved : goal.loop-at-preserved
loop-at-preserved g c =
    let lines : List SignedText = map signed_view c.args.lines.now in
    let at = c.loop-at.at in
    let first = c.next_place-first.result in
    let last = c.next_place-last.result in
    let len : length lines ≡ length c.args.lines.now = length-lines c.args.lines.now in
    let lens = lens-view c.args.lines.now first last
    c.old_len-old_len.result c.new_len-new_len.result (omega arith) (omega arith) c.old_len-old_len.ensures
    c.new_len-new_len.ensures in
    record {
      within = c.next_place-last.ensures.within;
      old = omega arith;
      new = omega arith;
      far = λ positive less. c.next_place-last.ensures.here less;
      pushed = HasPushed-next lines _ _ _ _ at c.loop-at.old_start c.loop-at.new_start first last
          c.old_len-old_len.result c.new_len-new_len.result
          (map signed_view (take (last - first) (drop first c.args.lines.now)))
          c.loop-at.invariant.pushed
          (hunk-found lines at c.loop-at.old_start c.loop-at.new_start first last
          (map signed_view (take (last - first) (drop first c.args.lines.now)))
          (view-part c.args.lines.now first last) c.next_place-first.ensures.from (omega arith)
          (omega arith) c.next_place-first.ensures.passed (c.next_place-first.ensures.here (omega arith))
          c.next_place-last.ensures.passed (λ less. c.next_place-last.ensures.here (omega arith))
          (λ positive less. c.loop-at.invariant.far positive (omega arith)))
          c.old_len-old_len.ensures c.new_len-new_len.ensures c.in_ok-push_head.ensures
          c.in_ok-push_lines.ensures;
    }

pub returns : goal.returns
returns g c lean =
    HasPushed-all (map signed_view c.args.lines.now) _ _ c.loop-at.at c.loop-at.old_start c.loop-at.new_start
    c.loop-at.invariant.pushed
    (λ k below from. absurd (let len = length-lines c.args.lines.now in omega arith))
    (λ first last. lean-part (map signed_view c.args.lines.now) first last lean)
