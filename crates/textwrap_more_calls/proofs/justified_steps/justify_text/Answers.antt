use Rattle.textwrap_more_calls.proofs.justified_steps.justify_text.Goals as goal
use Rattle.textwrap_calls.proofs.Common.{◌+◌, ◌<◌, ◌∷◌, ◌++◌, arith, drop, drop_more, get_or, inl, inr}
use Rattle.textwrap_calls.proofs.Common.{length, length-drop, ap, append-nil, map, refl, string_bytes}
use Rattle.textwrap_calls.proofs.Common.{added_lines, length-map, line_bytes, nat_lt, sym, ◌||◌, ◌∙◌}
use Rattle.textwrap_calls.proofs.Common.{line_view, settings_view, paragraphs_left}
use Rattle.textwrap_calls.proofs.Common.{paragraphs_left-split}
use Rattle.textwrap_layout.proofs.Common.{layout_view}
use Rattle.textwrap_more_calls.proofs.TextStepLemmas.{IsJustifiedTo, justified-more, justified-start}
use Rattle.textwrap_more_calls.specs.declared.steps.TextwrapSteps.{TextwrapSteps}
use Rattle.textwrap_more_calls.proofs.justified_steps.justify_text.Goals.{After-list_paragraph}

pub loop-rest-init : goal.loop-rest-init
loop-rest-init g c = record {
  so_far = justified-start c.new.ensures.bytes;
  within = omega arith;
  waits = refl;
  layout_is = ap layout_view c.of.ensures;
}

-- the lines so far, before a paragraph and its steps
so_far : (g : _) (c : After-list_paragraph g) (d : TextwrapSteps)
    → IsJustifiedTo (settings_view c.args.options.now) c.args.steps.now c.args.text.now
    (string_bytes c.loop-rest.filled.text) c.loop-rest.filled.has_lines
    (c.split_paragraph.result.0.now
    ∷ paragraphs_left c.args.options.now.line_ending c.split_paragraph.result.1)
    (get_or c.args.steps.now c.loop-rest.number d
    ∷ drop (c.loop-rest.number + 1) c.args.steps.now)
so_far g c d =
    let within : c.loop-rest.number < length c.args.steps.now =
    omega (arith, c.if-number-steps.false) in
    rw (← drop_more c.args.steps.now c.loop-rest.number d within) (rw (
      c.in-Some.is,
      paragraphs_left-split c.args.options.now.line_ending c.in-Some.text.now
          c.split_paragraph.result.1 c.split_paragraph.result.0.now
          c.split_paragraph.ensures.paragraphs,
    ) at c.loop-rest.invariant.so_far)

pub returns-in-Err-clause-refused : goal.returns-in-Err-clause-refused
returns-in-Err-clause-refused g c =
    let before = so_far g (goal.at.returns-in-Err-clause-refused g c).After-list_paragraph _ in
    elim c.in-Err.ensures.refused [
      | inl (wrong, divided, not) ↦ inl (wrong, λ all. not ((before.steps_are.0 all).0 divided))
      | inr memory ↦ inr memory
    ]

pub loop-rest-preserved : goal.loop-rest-preserved
loop-rest-preserved g c =
    let filled = string_bytes c.loop-rest.filled.text in
    let is_later = c.loop-rest.filled.has_lines in
    let settings = settings_view c.args.options.now in
    let lines = c.deref.result.now in
    let more = c.in-Ok-push_lines.ensures in
    record {
      so_far = justified-more c.in-Ok.lines.items
          (so_far g (goal.at.loop-rest-preserved g c).After-list_paragraph _)
          c.in-Ok.ensures.lines
          (more.text ∙ ap (λ s. filled ++ added_lines s is_later
          (map line_bytes (map line_view lines))) c.loop-rest.invariant.layout_is
          ∙ ap (λ ls. filled ++ added_lines settings is_later (map line_bytes (map line_view ls)))
          c.deref.ensures.value)
          (more.has_lines ∙ ap (λ n. is_later || nat_lt 0 n) (length-map (map line_view lines) line_bytes
          ∙ length-map lines line_view ∙ ap length c.deref.ensures.value))
          c.in-Ok.ensures.steps;
      within = omega (arith, c.if-number-steps.false);
      waits = more.waits;
      layout_is = ap layout_view more.layout_is ∙ c.loop-rest.invariant.layout_is;
    }

pub returns-then-number-steps-2-clause-refused : goal.returns-then-number-steps-2-clause-refused
returns-then-number-steps-2-clause-refused g c =
    let before = rw c.in_default.is at c.loop-rest.invariant.so_far in
    let count = length-drop c.loop-rest.number c.args.steps.now in
    inl (
      refl,
      λ all. omega (arith, ap length (before.steps_are.0 all), count, c.if-number-steps-2.true),
    )

pub returns-clause-filled : goal.returns-clause-filled
returns-clause-filled g c =
    let all = rw c.in_default.is at c.loop-rest.invariant.so_far in
    sym (all.whole ∙ append-nil (string_bytes c.loop-rest.filled.text))
