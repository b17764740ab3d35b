use Rattle.textwrap_more_calls.proofs.pieces.are_offsets.Goals as goal
use Rattle.textwrap_calls.proofs.Common.{ap, chars, shown, ◌∙◌}
use Rattle.textwrap_calls.proofs.Common.{arith, characters_left, eqb-true, length, shown_text, sym}
use Rattle.textwrap_more_calls.proofs.{Common.offsets_past, OffsetLemmas.{left_after, offsets-read}}
use Rattle.textwrap_text.proofs.Units.Characters.{shown-all, shown-from, shown-next}
use Rattle.textwrap_text.proofs.{Common.{eq-eqb, nil_from_length}, Units.Reading.stripped-short}
use Rattle.textwrap_text.specs.declared.escapes.State.TheVariants.{Text}

pub loop-character-init : goal.loop-character-init
loop-character-init c =
    let line = c.args.line.now in
    rw (c.into_iter-character-iterator.ensures.into_iter_gives, c.of-character-items.ensures) (record {
      bytes = omega (arith, ap length (shown-all line));
      offsets = rw c.offsets_past-left.ensures
          (ap (λ cs. left_after 0 cs (offsets_past 0 c.args.offsets.now))
          (shown-from Text 0 (chars line)));
    })

pub overflow_add-shown : goal.overflow_add-shown
overflow_add-shown c = omega (
  arith,
  ap (λ cs. length (shown_text cs)) c.in-Some.ensures.steps,
  rw c.if-character.true at (shown-next c.in-Some.character (characters_left c.next.new.self)),
  stripped-short c.args.line.now c.utf8.line,
)

pub returns : goal.returns
returns c =
    let left = c.loop-character.left.now in
    let is = sym (ap (λ cs. left_after c.loop-character.shown (shown cs) left) c.in-None.ensures.steps.0)
    ∙ c.loop-character.invariant.offsets in
    let are = offsets-read c.args.line.now c.args.offsets.now c.utf8.line in (
      λ empty. are.0 (sym is ∙ nil_from_length left (eqb-true (length left) 0 (sym c.is_empty.ensures ∙ empty))),
      λ offsets. c.is_empty.ensures ∙ eq-eqb (length left) 0 (ap length (is ∙ are.1 offsets)),
    )
