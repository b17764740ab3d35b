use Rattle.std.proofs.lemmas.List.{get_or-append_right, take_rest}
use Rattle.textwrap_hyphens.proofs.{Lookups.fewer-times, Lookups.lookups-more, Raised.before-all}
use Rattle.textwrap_hyphens.proofs.Raised.{before-here, before-past, before-none, level_before}
use Rattle.textwrap_hyphens.{proofs.Raised.levels-all, specs.Table.levels_by}
use Rattle.textwrap_text.proofs.Common.{get_or_append_left, arith, ap, cases_lt, drop, get_or}
use Rattle.textwrap_text.proofs.Common.{get_or-drop, get_or-take, length, length-append}
use Rattle.textwrap_text.proofs.Common.{length-drop, length-take, max, take, ◌+◌, ◌-◌, ◌<◌, ◌≡◌}
use Rattle.textwrap_text.proofs.Common.{◌≤◌, ◌∙◌, ⊎_elim, ◌++◌, min}
use borrow.Rule.Slice.PartMut.{put_mid, post_of}
use Rattle.textwrap_hyphens.proofs.levels.raise_all.Goals as goal

pub loop-at-init : goal.loop-at-init
loop-at-init c = record {
  levels = λ k within.
      omega (arith, before-none (levels_by c.args.patterns.now) c.args.whole.now k);
  lookups = omega arith;
}

pub loop-at-preserved : goal.loop-at-preserved
loop-at-preserved c =
    let text = c.args.whole.now in
    let most = c.args.patterns.now.longest in
    record {
      levels = λ k within.
          let from = (levels_by c.args.patterns.now) in
          let ds = c.args.whole.now in
          let at = c.loop-at.at in
          let old = c.loop-at.levels in
          let part = c.raise_from.new.levels in
          let rest = post_of at (length old - at) old in
          let front = length-take at old in
          let size = c.raise_from.auto.levels ∙ ap length (take_rest old at) ∙ length-drop at old in
          let none = length-drop (length old - at) (drop at old) in
          let inside : k < length old = omega (
            arith,
            length-append (take at old) (part ++ rest),
            length-append part rest,
            length-drop at old,
          ) in
          let before = c.loop-at.invariant.levels k inside in
          let all = c.loop-at.auto.levels in
          let ahead : length (take at old) ≡ at = omega (arith, front, all, c.loop-at-test.true) in
          ⊎_elim {C = get_or (put_mid at (length old - at) old part) k 0
          ≡ max (get_or c.args.levels.now k 0) (level_before from ds (at + 1) k)}
          (λ (lt : k < at).
          let same = get_or_append_left (take at old) (part ++ rest) 0 k (omega (arith, ahead, lt))
          ∙ get_or-take at old k 0 lt in
          omega (arith, same, before, before-past from ds at k lt))
          (λ (le : at ≤ k).
          let there = get_or-append_right (take at old) (part ++ rest) at k 0 ahead le
          ∙ get_or_append_left part rest 0 (k - at) (omega (arith, size, inside, le)) in
          let was = get_or-drop at old (k - at) 0
          ∙ ap (λ n. get_or old n 0) (let e : at + (k - at) ≡ k = omega (arith, le) in e) in
          let raised = c.raise_from.ensures.levels (k - at)
          (omega (arith, ap length (take_rest ds at), length-drop at ds, inside, all, c.requires.len, le)) in
          let here = before-here from ds at k le in
          let text = ap (λ t. from t (k - at)) (take_rest ds at) in
          let slice = ap (λ l. get_or l (k - at) 0) (take_rest old at) in
          omega (arith, there, was, raised, text, slice, here, before))
          (cases_lt k at);
      lookups =
          let len = ap length (take_rest text c.loop-at.at) ∙ length-drop c.loop-at.at text in
          omega (arith, lookups-more c.loop-at.at (length text) most);
    }

pub returns-clause-levels : goal.returns-clause-levels
returns-clause-levels c = λ letters is.
    let from = levels_by c.args.patterns.now in
    levels-all from letters c.args.whole.now c.args.levels.now c.loop-at.levels is c.requires.len
    (λ k within. c.requires.zero k 0 within) c.loop-at.auto.levels
    (λ k within.
    let all = before-all from c.args.whole.now c.loop-at.at k
    (omega (arith, within, c.loop-at-test.false)) in
    omega (arith, all, c.loop-at.invariant.levels k (omega (arith, within, c.loop-at.auto.levels))))

pub returns-clause-lookups : goal.returns-clause-lookups
returns-clause-lookups c =
    omega (
      arith,
      fewer-times (min c.loop-at.at (length c.args.whole.now)) (length c.args.whole.now)
          c.args.patterns.now.longest (omega arith),
    )
