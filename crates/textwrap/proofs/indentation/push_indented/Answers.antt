use Rattle.textwrap.proofs.indentation.push_indented.Goals as goal
use Rattle.textwrap.proofs.Common.{indent_of_part, append_assoc, append-nil, subst, refl, ◌++◌, sym}
use Rattle.textwrap.proofs.Common.{◌∙◌, ◌≡◌, []}

pub loop-line-init : goal.loop-line-init
loop-line-init g c =
    let left = c.into_iter-line-iterator.ensures.into_iter_gives ∙ c.of-line-items.ensures in
    record { text = ([], c.requires.none, rw left refl); name = refl }

pub loop-line-preserved : goal.loop-line-preserved
loop-line-preserved g c =
    let line = c.in-Some.line in
    let (so_far, held, rest) = c.loop-line.invariant.text in
    let indent : c.if-is_blank_line.indent.now ≡ indent_of_part c.args.prefix.now line.whole.now =
    elim c.if-is_blank_line.branch [
      | goal.then-is_blank_line w ↦
          rw (w.indent-is, ← c.is_blank_line.ensures, w.if-is_blank_line.true)
          c.trim_end-bare_prefix.ensures.trim
      | goal.else-is_blank_line w ↦
          rw (w.indent-is, ← c.is_blank_line.ensures, w.if-is_blank_line.false)
    ] in
    record {
      text = (
        (so_far ++ c.if-is_blank_line.indent.now) ++ line.whole.now,
        c.in_ok-push_part-2.ensures.pushed c.args.text.now _
            (c.in_ok-push_part.ensures.pushed c.args.text.now so_far held),
        rw (append_assoc, append_assoc, indent) (rw (c.in-Some.ensures.steps, ← line.ended, append_assoc) at rest),
      );
      name = c.push_part-in-loop-line.ensures.name ∙ c.push_part.ensures.name ∙ c.loop-line.invariant.name;
    }

pub returns-clause-indented : goal.returns-clause-indented
returns-clause-indented g c =
    let (so_far, held, rest) = c.loop-line.invariant.text in
    subst (g.S.TextSink.holds c.args.text.now c.loop-line.text)
    (sym (append-nil so_far) ∙ (rw c.in-None.ensures.steps.0 at rest)) held
