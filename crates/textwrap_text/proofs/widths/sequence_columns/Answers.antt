use Rattle.textwrap_text.proofs.Common.{char_indices_offset, char_indices_rest, length, length-drop}
use Rattle.textwrap_text.proofs.Common.{arith, drop, rules, sym, Text, ◌+◌, ◌∙◌, ◌≡◌}
use Rattle.textwrap_text.proofs.Units.Reading.{columns_in-empty, measured-start, measured-step}
use Rattle.textwrap_text.proofs.Units.Reading.{added, IsMeasured, measured-le}
use Rattle.textwrap_text.proofs.widths.sequence_columns.Goals.{Joined-is_visible}
use Rattle.textwrap_text.proofs.widths.sequence_columns.Goals as goal

pub loop-at-init : goal.loop-at-init
loop-at-init c = grind (arith, measured-start)

past : (c : Joined-is_visible)
    → IsMeasured c.args.text.now (char_indices_offset c.next.new.self)
    (char_indices_rest c.next.new.self) c.step-next.result.0 (c.loop-at.width + c.if-is_visible.width)
past c =
    let s = c.in-Some.ensures.steps in
    let more : added c.loop-at.state c.in-Some.ch ≡ c.if-is_visible.width =
    elim c.if-is_visible.branch [
      | goal.then-is_visible w ↦ rw (rw c.step-next.ensures at w.if-is_visible.true)
          (sym (w.width-is ∙ w.columns.ensures))
      | goal.else-is_visible w ↦ rw (rw c.step-next.ensures at w.if-is_visible.false) (sym w.width-is)
    ] in
    rw (c.step-next.ensures, ← more) (measured-step c.args.text.now _ _ c.in-Some.ch _ _
    c.loop-at.state c.loop-at.width c.loop-at.invariant s.1 s.2)

pub overflow_add-width : goal.overflow_add-width
overflow_add-width c = omega (arith, measured-le c.args.text.now _ _ _ _ c.utf8.text (past (goal.at.overflow_add-width c).Joined-is_visible))

pub loop-at-preserved : goal.loop-at-preserved
loop-at-preserved c = past (goal.at.loop-at-preserved c).Joined-is_visible

pub returns-clause-columns : goal.returns-clause-columns
returns-clause-columns c =
    let none = c.in-None.ensures.steps.0 in
    let ended = columns_in-empty c.loop-at.state (char_indices_rest c.loop-at.at-iterator) none in
    let nothing = columns_in-empty Text (drop (length c.args.text.now) c.args.text.now)
    (omega (arith, length-drop (length c.args.text.now) c.args.text.now)) in search (rules, arith)
