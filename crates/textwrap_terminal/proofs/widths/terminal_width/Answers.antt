use Rattle.textwrap_terminal.proofs.Reading.{added, IsMeasured, measured-end, measured-start}
use Rattle.textwrap_terminal.proofs.Reading.{measured-step}
use Rattle.textwrap_terminal.proofs.widths.terminal_width.Goals as goal
use Rattle.textwrap_terminal.proofs.widths.terminal_width.Goals.{Joined-is_visible}
use Rattle.textwrap_text.proofs.Common.{arith, char_indices_offset, char_indices_rest, sym, ◌+◌}
use Rattle.textwrap_text.proofs.Common.{◌∙◌, ◌≡◌}

pub loop-ch-init : goal.loop-ch-init
loop-ch-init c = grind (arith, measured-start)

past : (c : Joined-is_visible)
    → IsMeasured c.args.text.now (char_indices_offset c.next.new.self)
    (char_indices_rest c.next.new.self) c.step-next.result.0 (c.loop-ch.width + c.if-is_visible.width)
past c =
    let s = c.in-Some.ensures.steps in
    let more : added c.loop-ch.state c.in-Some.ch ≡ c.if-is_visible.width =
    elim c.if-is_visible.branch [
      | goal.then-is_visible w ↦ rw (rw c.step-next.ensures at w.if-is_visible.true)
          (sym (w.width-is ∙ w.columns.ensures))
      | goal.else-is_visible w ↦ rw (rw c.step-next.ensures at w.if-is_visible.false) (sym w.width-is)
    ] in
    rw (c.step-next.ensures, ← more) (measured-step c.args.text.now _ _ c.in-Some.ch _ _
    c.loop-ch.state c.loop-ch.width c.loop-ch.invariant s.1 s.2)

pub overflow_add-width : goal.overflow_add-width
overflow_add-width c =
    let h = past (goal.at.overflow_add-width c).Joined-is_visible in
    omega (arith, h.within, h.read.boundary.0)

pub loop-ch-preserved : goal.loop-ch-preserved
loop-ch-preserved c = past (goal.at.loop-ch-preserved c).Joined-is_visible

pub returns-clause-width : goal.returns-clause-width
returns-clause-width c =
    measured-end c.args.text.now _ _ _ _ c.loop-ch.invariant c.in-None.ensures.steps.0
