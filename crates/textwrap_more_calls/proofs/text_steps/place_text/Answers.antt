use Rattle.textwrap_more_calls.proofs.text_steps.place_text.Goals as goal
use Rattle.textwrap_calls.proofs.Common.{◌+◌, ◌<◌, ◌∷◌, ap, arith, drop, drop_more, get_or, inl, inr}
use Rattle.textwrap_calls.proofs.Common.{length, length-drop, refl, settings_view, paragraphs_left}
use Rattle.textwrap_calls.proofs.Common.{paragraphs_left-split}
use Rattle.textwrap_more_calls.proofs.TextStepLemmas.{HasTextLines, HasTextLines-more}
use Rattle.textwrap_more_calls.proofs.TextStepLemmas.{HasTextLines-shown, HasTextLines-start}
use Rattle.textwrap_more_calls.proofs.TextStepLemmas.{paragraph-fits}
use Rattle.textwrap_more_calls.specs.declared.steps.TextwrapSteps.{TextwrapSteps}
use Rattle.textwrap_more_calls.proofs.text_steps.place_text.Goals.{After-push_paragraph}

pub loop-rest-init : goal.loop-rest-init
loop-rest-init g c = record {
  so_far = HasTextLines-start (c.new-lines.ensures.places, c.new-lines.ensures.built);
  within = omega arith;
}

-- the lines so far, before a paragraph and its steps
so_far : (g : _) (c : After-push_paragraph g) (d : TextwrapSteps)
    → HasTextLines (settings_view c.args.options.now) c.args.steps.now c.args.text.now
    c.loop-rest.lines c.has_line-is_later.result c.loop-rest.start
    (c.split_paragraph.result.0.now
    ∷ paragraphs_left c.args.options.now.line_ending c.split_paragraph.result.1)
    (get_or c.args.steps.now c.loop-rest.number d
    ∷ drop (c.loop-rest.number + 1) c.args.steps.now)
so_far g c d =
    let within : c.loop-rest.number < length c.args.steps.now =
    omega (arith, c.if-number-steps.false) in
    rw (← drop_more c.args.steps.now c.loop-rest.number d within, c.has_line-is_later.ensures) (rw (
      c.in-Some.is,
      paragraphs_left-split c.args.options.now.line_ending c.in-Some.text.now
          c.split_paragraph.result.1 c.split_paragraph.result.0.now
          c.split_paragraph.ensures.paragraphs,
    ) at c.loop-rest.invariant.so_far)

pub returns-in-Err-clause-refused : goal.returns-in-Err-clause-refused
returns-in-Err-clause-refused g c =
    let before = so_far g (goal.at.returns-in-Err-clause-refused g c).After-push_paragraph _ in
    elim c.in-Err.ensures.refused [
      | inl (wrong, divided, not) ↦ inl (wrong, λ all. not ((before.steps_are.0 all).0 divided))
      | inr memory ↦ inr memory
    ]

pub overflow_add-start-in-Some : goal.overflow_add-start-in-Some
overflow_add-start-in-Some g c =
    let paragraph = c.split_paragraph.result.0.now in
    let before = rw (
      c.in-Some.is,
      paragraphs_left-split c.args.options.now.line_ending c.in-Some.text.now
          c.split_paragraph.result.1 paragraph c.split_paragraph.ensures.paragraphs,
    ) at c.loop-rest.invariant.so_far in
    paragraph-fits c.args.options.now.line_ending c.args.text.now paragraph _ c.loop-rest.start
    c.as_str.result.now (before.within (omega arith)) c.as_str.ensures (omega arith)

pub loop-rest-preserved : goal.loop-rest-preserved
loop-rest-preserved g c = record {
  so_far = HasTextLines-more (so_far g (goal.at.loop-rest-preserved g c).After-push_paragraph _)
      c.has_line-is_later.ensures (ap (λ bytes. c.loop-rest.start
      + (length c.split_paragraph.result.0.now + length bytes)) c.as_str.ensures)
      c.in-Ok.ensures.placed c.in-Ok.ensures.begins c.in-Ok.ensures.steps;
  within = omega (arith, c.if-number-steps.false);
}

pub returns-then-number-steps-2-clause-refused : goal.returns-then-number-steps-2-clause-refused
returns-then-number-steps-2-clause-refused g c =
    let before = rw c.in_default.is at c.loop-rest.invariant.so_far in
    let count = length-drop c.loop-rest.number c.args.steps.now in
    inl (
      refl,
      λ all. omega (arith, ap length (before.steps_are.0 all), count, c.if-number-steps-2.true),
    )

pub returns-clause-shown : goal.returns-clause-shown
returns-clause-shown g c =
    HasTextLines-shown (rw c.in_default.is at c.loop-rest.invariant.so_far)
