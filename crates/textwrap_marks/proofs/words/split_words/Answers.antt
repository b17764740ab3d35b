use Rattle.textwrap_marks.proofs.words.split_words.Goals as goal
use Rattle.std.proofs.lemmas.Str.{IsCharBoundary-from_drop}
use Rattle.textwrap_marks.proofs.Common.{spaced_words, nat_tests, IsUtf8, length, arith, rules, subst, ap}
use Rattle.textwrap_marks.proofs.Common.{sym, ◌+◌, ◌-◌, ◌<◌, ◌∙◌, ◌≡◌}
use Rattle.textwrap_marks.proofs.WordCuts.{IsBehindWords, behind-next, parts-are}
use Rattle.textwrap_marks.proofs.words.split_words.Goals.{else-loop-len-test, After-split_at}
use Rattle.textwrap_marks.proofs.words.split_words.Goals.{then-loop-len-test+else-not-is_empty}

pub loop-len-init : goal.loop-len-init
loop-len-init c = search rules

pub loop-len-preserved : goal.loop-len-preserved
loop-len-preserved c =
    let text = c.args.text.now in (
      search rules,
      omega (arith, c.loop-len-test.true),
      subst (IsBehindWords text (c.loop-len.len + 1)) (sym c.split_first.ensures.behind)
          (behind-next text c.loop-len.len c.loop-len.rest.now c.loop-len.invariant.2 (grind (arith, nat_tests))),
    )

pub split_at-requires : goal.split_at-requires
split_at-requires c =
    IsCharBoundary-from_drop c.args.text.now (length c.args.text.now - length c.loop-len.rest.now) (omega arith)
    (subst IsUtf8 (sym c.loop-len.invariant.2.behind) c.loop-len.invariant.0)

-- the loop ends where so many words were passed, or nothing is left
ends : (c : After-split_at) → 0 < length c.loop-len.rest.now → c.loop-len.len ≡ c.args.count
ends c = elim c.loop-len-test.branch [
  | then-loop-len-test+else-not-is_empty w ↦ λ some. grind (arith, nat_tests)
  | else-loop-len-test w ↦ λ some. omega (arith, w.loop-len-test.false, c.loop-len.invariant.1)
]

pub returns-clause-front : goal.returns-clause-front
returns-clause-front c =
    ap spaced_words c.split_at.ensures.front ∙ (parts-are c.args.text.now c.loop-len.len c.args.count
    c.loop-len.rest.now c.loop-len.invariant.2 c.loop-len.invariant.1 (ends c)).0

pub returns-clause-behind : goal.returns-clause-behind
returns-clause-behind c =
    ap spaced_words c.split_at.ensures.back ∙ (parts-are c.args.text.now c.loop-len.len c.args.count
    c.loop-len.rest.now c.loop-len.invariant.2 c.loop-len.invariant.1 (ends c)).1
