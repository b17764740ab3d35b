use Rattle.textwrap_styles.proofs.styles.sequence_tail_len.Goals as goal
use Rattle.textwrap_styles.proofs.Sequences.{read_to-end, read_to-start, read_to-step}
use Rattle.textwrap_text.{proofs.Common.◌≢◌, specs.declared.escapes.State.TheVariants.Text}

pub loop-at-init : goal.loop-at-init
loop-at-init c =
    let items = c.char_indices-at-items.ensures in
    rw (c.into_iter-at-iterator.ensures.into_iter_gives, items.offset, items.rest)
    (read_to-start c.args.after.now c.utf8.after)

pub loop-at-preserved : goal.loop-at-preserved
loop-at-preserved c =
    let s = c.in-Some.ensures.steps in
    let inside : c.loop-at.state ≢ Text = elim c.match-matches.branch [
      | goal.in-Text w ↦ absurd (cc (w.matches-is, c.if-matches.false))
      | goal.in_default w ↦ w.in_default.not-Text
    ] in
    rw c.step-next.ensures
    (read_to-step c.args.after.now _ _ _ c.loop-at.invariant _ c.in-Some.ch _ inside s.1 s.2)

pub returns : goal.returns
returns c = read_to-end c.args.after.now _ _ _ c.loop-at.invariant c.in-None.ensures.steps.0
