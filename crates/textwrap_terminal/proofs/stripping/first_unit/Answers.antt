use Rattle.std.specs.Prelude.{encode_utf8}
use Rattle.textwrap_terminal.proofs.Kept.{first-end, first-start, first-step, IsFirst}
use Rattle.textwrap_terminal.proofs.stripping.first_unit.Goals as goal
use Rattle.textwrap_terminal.proofs.stripping.first_unit.Goals.{After-stays, After-stays-2}
use Rattle.textwrap_terminal.specs.States.{stays}
use Rattle.textwrap_terminal.specs.declared.states.TerminalState.TheVariants.{Text}
use Rattle.textwrap_text.proofs.Common.{ap, drop, inl, inr, length, subst, sym, true≢false, ◌+◌}
use Rattle.textwrap_text.proofs.Common.{◌∙◌, ◌≡◌, ◌≢◌}
use Rattle.textwrap_text.proofs.Units.Reading.{read-all}

pub loop-at-init : goal.loop-at-init
loop-at-init c =
    let s = c.in-Some.ensures.steps in
    let made = c.char_indices-chars.ensures in
    rw (c.into_iter-at-iterator.ensures.into_iter_gives, c.step-state.ensures)
    (first-start c.args.text.now _ c.in-Some.first _ c.utf8.text (sym made.rest ∙ s.1)
    (s.2 ∙ ap (λ n. n + length (encode_utf8 c.in-Some.first)) made.offset))

pub loop-at-preserved : goal.loop-at-preserved
loop-at-preserved c =
    let s = c.in-Some-2.ensures.steps in
    let inside : c.loop-at.state ≢ Text = λ e. elim c.match-matches.branch [
      | goal.in-Text w ↦ true≢false (sym w.matches-is ∙ c.if-matches.false)
      | goal.in_default-matches w ↦ w.in_default-matches.not-Text e
    ] in
    rw (c.step-state-in-loop-at.ensures, c.ends_common-is_common.ensures)
    (first-step c.loop-at.invariant c.in-Some-2.ch _ _ inside s.1 s.2)

here : (c : After-stays) → IsFirst c.args.text.now c.in-Some-2.at c.stays.result
    (drop c.in-Some-2.at c.args.text.now)
here c =
    let over : c.loop-at.state ≡ Text = elim c.match-matches.branch [
      | goal.in-Text w ↦ w.in-Text.is
      | goal.in_default-matches w ↦ absurd (true≢false (sym c.if-matches.true ∙ w.matches-is))
    ] in
    rw (c.stays.ensures, c.in-Some-2.ensures.steps.0)
    (first-end c.loop-at.invariant c.utf8.text (inl over))

pub returns-then-matches-clause-kept : goal.returns-then-matches-clause-kept
returns-then-matches-clause-kept c = (here c).kept

pub returns-then-matches-clause-other : goal.returns-then-matches-clause-other
returns-then-matches-clause-other c = (here c).other

end : (c : After-stays-2) → IsFirst c.args.text.now (length c.args.text.now) c.stays-2.result
    (drop (length c.args.text.now) c.args.text.now)
end c =
    let none = c.in-None.ensures.steps.0 in
    let at = read-all c.loop-at.invariant.read none in
    rw c.stays-2.ensures
    (subst (λ n. IsFirst c.args.text.now n (stays c.in-Some.first c.loop-at.is_common)
    (drop n c.args.text.now)) at (first-end c.loop-at.invariant c.utf8.text (inr none)))

pub returns-clause-kept : goal.returns-clause-kept
returns-clause-kept c = (end c).kept

pub returns-clause-other : goal.returns-clause-other
returns-clause-other c = (end c).other
