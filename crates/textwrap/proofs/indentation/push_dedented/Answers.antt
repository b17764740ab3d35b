use Rattle.textwrap_text.proofs.{Common.rules, Common.arith, TextLines.lines-made}
use Rattle.textwrap.proofs.Common.{ended_lines-texts, without_margin, is_blank_line, append_assoc}
use Rattle.textwrap.proofs.Common.{StartsWith, append-nil, margin_of, All-head, All-tail, texts_of}
use Rattle.textwrap.proofs.Common.{chars, false, subst, refl, ◌++◌, sym, ◌∙◌, ◌∷◌, ◌≡◌, []}
use Rattle.textwrap.proofs.Text.Margins.{lines_begin_with_margin}
use Rattle.textwrap.proofs.indentation.push_dedented.Goals as goal

pub loop-line-init : goal.loop-line-init
loop-line-init g c =
    let left = c.into_iter-line-iterator.ensures.into_iter_gives ∙ c.of-line-items.ensures in
    let margin = c.margin_of-margin.ensures in
    let s = c.args.s.now in
    record {
      text = ([], c.requires.none, rw (left, margin) (sym (lines-made (without_margin (margin_of s)) s)));
      begins = rw (left, margin, ended_lines-texts) (lines_begin_with_margin s);
      name = refl;
    }

pub without_margin-requires : goal.without_margin-requires
without_margin-requires g c =
    search (rules, arith, All-head, c.in-Some.ensures.steps, c.loop-line.invariant.begins)

pub loop-line-preserved : goal.loop-line-preserved
loop-line-preserved g c =
    let (so_far, held, rest) = c.loop-line.invariant.text in
    let steps = c.in-Some.ensures.steps in
    record {
      text = (
        so_far ++ c.without_margin.result.now,
        c.in_ok-push_part.ensures.pushed c.args.text.now so_far held,
        rw (c.without_margin.ensures, append_assoc)
            (rw (steps, ← c.is_some.ensures, c.if-is_some.false, append-nil) at rest),
      );
      begins = All-tail (λ line. is_blank_line line ≡ false
          → StartsWith (chars line) (chars c.margin_of-margin.result.now)) c.in-Some.line.text.now
          (texts_of c.next.new.self) (rw steps at c.loop-line.invariant.begins);
      name = c.push_part.ensures.name ∙ c.loop-line.invariant.name;
    }

pub loop-line-preserved-in-Continue-branch-2 : goal.loop-line-preserved-in-Continue-branch-2
loop-line-preserved-in-Continue-branch-2 g c =
    let (so_far, held, rest) = c.loop-line.invariant.text in
    let steps = c.in-Some.ensures.steps in
    record {
      text = (
        (so_far ++ c.without_margin.result.now) ++ 10 ∷ [],
        c.in_ok-push_part-2.ensures.pushed c.args.text.now _
            (c.in_ok-push_part.ensures.pushed c.args.text.now so_far held),
        rw (c.without_margin.ensures, append_assoc so_far, append_assoc)
            (rw (steps, ← c.is_some.ensures, c.if-is_some.true) at rest),
      );
      begins = All-tail (λ line. is_blank_line line ≡ false
          → StartsWith (chars line) (chars c.margin_of-margin.result.now)) c.in-Some.line.text.now
          (texts_of c.next.new.self) (rw steps at c.loop-line.invariant.begins);
      name = c.push_part-then-is_some.ensures.name ∙ c.push_part.ensures.name ∙ c.loop-line.invariant.name;
    }

pub returns-clause-dedented : goal.returns-clause-dedented
returns-clause-dedented g c =
    let (so_far, held, rest) = c.loop-line.invariant.text in
    subst (g.S.TextSink.holds c.args.text.now c.loop-line.text)
    (sym (append-nil so_far) ∙ (rw c.in-None.ensures.steps.0 at rest)) held
