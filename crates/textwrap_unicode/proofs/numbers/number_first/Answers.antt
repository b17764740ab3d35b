use Rattle.std.proofs.lemmas.List.{at_drop_more}
use Rattle.textwrap_text.proofs.ClassNames.{ap, arith, chars, drop, refl, ◌+◌, ◌∙◌, ◌≡◌}
use Rattle.textwrap_text.proofs.ClassNames.{class_of, if◌then◌else◌, is_mark, is_number, length, sym}
use Rattle.textwrap_text.proofs.Common.{YieldsList-end, YieldsList-from_chars, YieldsList-turn}
use Rattle.textwrap_text.proofs.Common.{at_drop_all, length_push}
use Rattle.textwrap_unicode.proofs.{Common.number_first, numbers.number_first.Goals.In-Some}
use Rattle.textwrap_unicode.proofs.numbers.number_first.Goals as goal

-- the answer from the next character on
next : (c : In-Some) → number_first (drop (length c.loop-c.yielded) (chars c.args.text.now))
    ≡ (if is_mark (class_of c.in-Some.c)
    then number_first (drop (length c.loop-c.yielded + 1) (chars c.args.text.now))
    else is_number (class_of c.in-Some.c))
next c =
    let t = YieldsList-turn (YieldsList-from_chars c.args.text.now c.utf8.text cc) c.loop-c.yielded
    _ c.loop-c.yielded_by _ _ c.in-Some.c c.in-Some.is c.next.ensures.steps in
    rw (at_drop_more number_first _ _ c.in-Some.c t.0, ← t.1) refl

pub returns-then-not-is_mark : goal.returns-then-not-is_mark
returns-then-not-is_mark c =
    let other = sym (c.is_mark.ensures ∙ ap is_mark c.class_of-class.ensures) ∙
    c.if-not-is_mark.true in
    c.is_number.ensures ∙ ap is_number c.class_of-class.ensures
    ∙ sym (rw other at (next (goal.at.returns-then-not-is_mark c).In-Some)) ∙ c.loop-c.invariant

pub loop-c-preserved : goal.loop-c-preserved
loop-c-preserved c =
    let mark = sym (c.is_mark.ensures ∙ ap is_mark c.class_of-class.ensures) ∙
    c.if-not-is_mark.false in
    rw length_push (sym (rw mark at (next
    (goal.at.loop-c-preserved c).In-Some)) ∙ c.loop-c.invariant)

pub returns : goal.returns
returns c =
    let text = c.args.text.now in
    let t = YieldsList-end (YieldsList-from_chars text c.utf8.text cc) c.loop-c.yielded
    _ c.loop-c.yielded_by _ _ c.in-None.is c.next.ensures.steps in
    sym (at_drop_all number_first (chars text) (length c.loop-c.yielded) (omega (arith, t.1)))
    ∙ c.loop-c.invariant
