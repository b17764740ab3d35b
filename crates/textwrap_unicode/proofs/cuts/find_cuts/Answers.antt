use Rattle.textwrap_text.proofs.ClassNames.{ap, drop, length, read-next, refl, sym, ◌+◌, ◌∙◌}
use Rattle.textwrap_text.proofs.Common.{arith, rules}
use Rattle.textwrap_unicode.proofs.CutLemmas.{IsCutting-end, IsCutting-start, IsCutting-step}
use Rattle.textwrap_unicode.proofs.WordVerdicts.{ideographs-passed, words-passed}
use Rattle.textwrap_unicode.proofs.cuts.find_cuts.Goals.{Joined-is_visible}
use Rattle.textwrap_unicode.proofs.{Common.and, Common.may_end, CutLemmas.IsCutting}
use Rattle.textwrap_words.proofs.Word.Offsets.{cuts_at-AreInnerCuts}
use Rattle.textwrap_unicode.proofs.cuts.find_cuts.Goals as goal

pub loop-ch-init : goal.loop-ch-init
loop-ch-init c = search (rules, arith, IsCutting-start)

pub range_from-requires : goal.range_from-requires
range_from-requires c = search (rules, arith, c.loop-ch.invariant.read.boundary)

pub step_past-verdict-requires : goal.step_past-verdict-requires
step_past-verdict-requires c =
    rw c.len_utf8.ensures.len
    (read-next c.loop-ch.invariant.read _ _
    (sym c.range_from.ensures.value ∙ sym c.chars.ensures.rest
    ∙ c.in-Some.ensures.steps.0) _ refl).boundary

-- the reader past the character
past : (c : Joined-is_visible) → IsCutting c.args.numbers c.args.line.now
    (c.loop-ch.at + c.len_utf8.result)
    (drop (c.loop-ch.at + c.len_utf8.result) c.args.line.now) c.step-next.result.0 c.if-is_visible.before
    c.if-is_visible.end c.if-is_visible.is_hyphen c.if-is_visible.cuts.items
past c =
    let line = c.args.line.now in
    let ch = c.in-Some.ch in
    let is = sym c.range_from.ensures.value ∙ sym c.chars.ensures.rest ∙ c.in-Some.ensures.steps.0
    in
    let after = (read-next c.loop-ch.invariant.read ch _ is _ refl).place in
    rw (c.len_utf8.ensures.len, after) (elim c.if-is_visible.branch [
      | goal.then-is_visible+in_ok-push_cut w ↦
          let shown = w.if-is_visible.true in
          let said = rw (c.len_utf8.ensures.len, w.of-unit.ensures, after)
          at w.step_past-verdict.ensures.verdict in
          let may = w.may_end.ensures ∙ ap may_end said in
          IsCutting-step _ _ _ _ _ _ _ _ _ ch _ c.step-next.result c.loop-ch.invariant
          is c.step-next.ensures _ _ _ _ _ refl
          (rw shown (w.before-is ∙ w.step_past-verdict.ensures.before
          ∙ ap (and c.loop-ch.before) w.of-unit.ensures))
          (rw shown (w.end-is ∙ ap (λ n. c.loop-ch.at + n) c.len_utf8.ensures.len))
          (rw shown (w.is_hyphen-is ∙ w.is_any_hyphen-is_hyphen.ensures))
          (rw (shown, ← may) (ap (λ v. v.items) w.cuts-is ∙ w.in_ok-push_cut.ensures))
      | goal.else-is_visible w ↦
          let hidden = w.if-is_visible.false in
          IsCutting-step _ _ _ _ _ _ _ _ _ ch _ c.step-next.result c.loop-ch.invariant
          is c.step-next.ensures _ _ _ _ _ refl (rw hidden w.before-is)
          (rw hidden w.end-is) (rw hidden w.is_hyphen-is) (rw hidden (ap (λ v. v.items) w.cuts-is))
    ])

pub loop-ch-preserved : goal.loop-ch-preserved
loop-ch-preserved c = past (goal.at.loop-ch-preserved c).Joined-is_visible

pub loop-ch-preserved-else-is_behind_ideograph : goal.loop-ch-preserved-else-is_behind_ideograph
loop-ch-preserved-else-is_behind_ideograph c =
    past (goal.at.loop-ch-preserved-else-is_behind_ideograph c).Joined-is_visible

pub loop-ch-preserved-in_ok-passed : goal.loop-ch-preserved-in_ok-passed
loop-ch-preserved-in_ok-passed c =
    let before = past (goal.at.loop-ch-preserved-in_ok-passed c).Joined-is_visible in
    let text = c.is_in_text.ensures c.if-is_in_text.true in
    let word = c.is_in_word.ensures c.if-is_in_word.true in
    let bytes = c.as_bytes-rest.ensures.value ∙ c.range_from-then-is_in_word.ensures.value in
    let found = c.in_ok-passed.ensures in
    words-passed c.args.numbers c.args.line.now _ _ _ _ _ _ _ _ _ _ _ _
    before text word c.if-end-at.true c.if-not-is_hyphen.true
    bytes found.within found.words found.cuts found.blank found.sign c.and_words-before.ensures

pub range_from-requires-then-is_in_word : goal.range_from-requires-then-is_in_word
range_from-requires-then-is_in_word c = λ _.
    (past (goal.at.range_from-requires-then-is_in_word c).Joined-is_visible).read.boundary

pub loop-ch-preserved-in_ok-at : goal.loop-ch-preserved-in_ok-at
loop-ch-preserved-in_ok-at c =
    let before = past (goal.at.loop-ch-preserved-in_ok-at c).Joined-is_visible in
    let text = c.is_in_text.ensures c.if-is_in_text.true in
    let ideograph = c.is_behind_ideograph.ensures c.if-is_behind_ideograph.true in
    let found = c.in_ok-at.ensures in
    ideographs-passed c.args.numbers c.args.line.now _ _ _ _ _ _ _ _ _
    before text ideograph c.if-end-at.true
    c.if-not-is_hyphen.true c.range_from-then-is_behind_ideograph.ensures.value found.ideographs
    found.cuts

pub range_from-requires-then-is_behind_ideograph : goal.range_from-requires-then-is_behind_ideograph
range_from-requires-then-is_behind_ideograph c = λ _.
    (past (goal.at.range_from-requires-then-is_behind_ideograph c).Joined-is_visible).read.boundary

pub returns-clause-cuts : goal.returns-clause-cuts
returns-clause-cuts c =
    IsCutting-end _ _ _ _ _ _ _ _ _ c.loop-ch.invariant
    (ap length (sym c.range_from.ensures.value ∙ sym c.chars.ensures.rest)
    ∙ c.in_default.ensures.steps.0.0)

pub returns-clause-inner : goal.returns-clause-inner
returns-clause-inner c = search (rules, arith, returns-clause-cuts, cuts_at-AreInnerCuts)
