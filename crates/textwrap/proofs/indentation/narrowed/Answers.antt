use Rattle.textwrap_text.proofs.Common.{YieldsList-from_chars, YieldsList-turn, YieldsList-end}
use Rattle.textwrap_text.proofs.Common.{rules}
use Rattle.textwrap_text.proofs.Texts.{encoded-within, encoded-more, cut_text, IsCut}
use Rattle.textwrap.proofs.Common.{YieldsList-from_zip, chars_from_encodes, take-append-drop, arith}
use Rattle.textwrap.proofs.Common.{IsCharBoundary, length_push, from_start, length, chars, subst}
use Rattle.textwrap.proofs.Common.{drop, take, sym, ◌+◌, ◌∙◌, ap}
use Rattle.textwrap.proofs.Text.Margins.{narrowed-done, narrowed-step, narrowed-stop, zip_at, AreAt}
use Rattle.textwrap.proofs.indentation.narrowed.Goals.{In-Some}
use Rattle.textwrap.proofs.indentation.narrowed.Goals as goal

-- the characters of this turn
turn : (c : In-Some) → AreAt (chars c.args.margin.now) (chars c.args.line.now)
    (length c.loop-ours.yielded) c.in-Some.ours c.in-Some.theirs
turn c =
    let t = YieldsList-turn (YieldsList-from_zip {s = c.into_iter-ours-iterator.result}
    (YieldsList-from_chars c.args.margin.now c.utf8.margin cc)
    (YieldsList-from_chars c.args.line.now c.utf8.line cc)) c.loop-ours.yielded
    _ c.loop-ours.yielded_by _ c.next.new.self (c.in-Some.ours, c.in-Some.theirs) c.in-Some.is
    c.next.ensures.steps in
    zip_at (chars c.args.margin.now) (chars c.args.line.now) (length c.loop-ours.yielded)
    c.in-Some.ours c.in-Some.theirs t.0 t.1

-- the margin before them
cut : (c : In-Some) → IsCut c.args.margin.now
    (take (length c.loop-ours.yielded) (chars c.args.margin.now))
    (drop (length c.loop-ours.yielded) (chars c.args.margin.now))
cut c = search (rules, arith, cut_text, take-append-drop, c.utf8.margin)

pub range-requires-clause-end_boundary : goal.range-requires-clause-end_boundary
range-requires-clause-end_boundary c =
    subst (IsCharBoundary c.args.margin.now) (sym c.loop-ours.invariant.len)
    (cut (goal.at.range-requires-clause-end_boundary c).In-Some).boundary

pub returns-then-ours-theirs : goal.returns-then-ours-theirs
returns-then-ours-theirs c =
    let ms = chars c.args.margin.now in
    let n = length c.loop-ours.yielded in
    let at = (goal.at.returns-then-ours-theirs c).In-Some in
    sym (chars_from_encodes (take n ms) c.range.result.now c.range.utf8
    (sym (c.range.ensures.value ∙ from_start c.args.margin.now c.loop-ours.len
    ∙ ap (λ k. take k c.args.margin.now) c.loop-ours.invariant.len
    ∙ (cut at).front)))
    ∙ narrowed-stop ms (chars c.args.line.now) n c.in-Some.ours c.in-Some.theirs (turn at)
    c.if-ours-theirs.true c.loop-ours.invariant.same

pub overflow_add-len : goal.overflow_add-len
overflow_add-len c =
    let n = length c.loop-ours.yielded in
    let here = turn (goal.at.overflow_add-len c).In-Some in
    let more = encoded-more (chars c.args.margin.now) n c.in-Some.ours here.in_margin here.ours in
    let within = encoded-within c.args.margin.now (n + 1) c.utf8.margin in
    omega (arith, more, within, c.len_utf8-len.ensures.len)

pub loop-ours-preserved : goal.loop-ours-preserved
loop-ours-preserved c =
    let ms = chars c.args.margin.now in
    let n = length c.loop-ours.yielded in
    let here = turn (goal.at.loop-ours-preserved c).In-Some in
    let more = encoded-more ms n c.in-Some.ours here.in_margin here.ours in
    record {
      len = rw length_push (omega (arith, more, c.len_utf8-len.ensures.len));
      same = rw length_push (narrowed-step ms (chars c.args.line.now) n c.in-Some.ours
          c.in-Some.theirs here c.if-ours-theirs.false c.loop-ours.invariant.same);
    }

pub returns : goal.returns
returns c =
    let t = YieldsList-end (YieldsList-from_zip {s = c.into_iter-ours-iterator.result}
    (YieldsList-from_chars c.args.margin.now c.utf8.margin cc)
    (YieldsList-from_chars c.args.line.now c.utf8.line cc)) c.loop-ours.yielded
    _ c.loop-ours.yielded_by _ c.next.new.self c.in-None.is c.next.ensures.steps in
    narrowed-done (chars c.args.margin.now) (chars c.args.line.now) (length c.loop-ours.yielded)
    t.1 c.loop-ours.invariant.same
