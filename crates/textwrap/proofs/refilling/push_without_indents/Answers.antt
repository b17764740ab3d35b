use Rattle.textwrap_text.{specs.LineViews.ended_line_view, proofs.Common.rules, proofs.Common.arith}
use Rattle.textwrap.proofs.Common.{detected_among, append_assoc, StartsWith, append-nil, All-head}
use Rattle.textwrap.proofs.Common.{All-tail, has_text, filter, blank, subst, ◌++◌, map, sym, ◌∙◌}
use Rattle.textwrap.proofs.Text.Unfilling.{detected_among-one, detected_among-two, joined_text-some}
use Rattle.textwrap.proofs.{Text.Unfilling.lines-begin, Common.◌∷◌, Common.[], Common.ap}
use Rattle.textwrap.proofs.refilling.push_without_indents.Goals as goal

pub without_indent-first-requires : goal.without_indent-first-requires
without_indent-first-requires g c =
    search (rules, arith, lines-begin, c.requires.initial, c.of.ensures, c.in-Some.ensures.steps)

pub loop-line-init : goal.loop-line-init
loop-line-init g c =
    let text = c.args.text.now in
    let first = ended_line_view c.in-Some.line in
    let steps = ap (filter has_text) (sym c.of.ensures) ∙ c.in-Some.ensures.steps in
    let left = c.into_iter-line-iterator.ensures.into_iter_gives in
    let reserved = c.in_ok-reserve_bytes.ensures.held c.args.joined.now [] c.requires.none in
    record {
      joined = (
        c.without_indent-first.result.now,
        c.in_ok-push_part.ensures.pushed c.args.joined.now [] reserved,
        rw (c.without_indent-first.ensures, left) (joined_text-some text c.args.initial_indent.now
            c.args.subsequent_indent.now first c.next.new.self c.requires.initial
            c.requires.subsequent steps),
      );
      name = c.push_part.ensures.name ∙ c.reserve_bytes.ensures.name;
      begins = rw (left, c.requires.subsequent) (lines-begin text first c.next.new.self steps).1;
      detected = ap (λ es. detected_among (c.in-Some.line.ending ∷ map (λ e. e.ending) es)) left
          ∙ ap (λ es. detected_among (map (λ e. e.ending) es)) (sym steps);
    }

pub without_indent-requires : goal.without_indent-requires
without_indent-requires g c =
    let line = ended_line_view c.in-Some-line.line in
    All-head (λ e. StartsWith e.line c.args.subsequent_indent.now) line c.next-in-loop-line.new.self
    (rw c.in-Some-line.ensures.steps at c.loop-line.invariant.begins)

pub loop-line-preserved : goal.loop-line-preserved
loop-line-preserved g c =
    let line = ended_line_view c.in-Some-line.line in
    let left = c.next-in-loop-line.new.self in
    let steps = c.in-Some-line.ensures.steps in
    let (before, held, joined) = c.loop-line.invariant.joined in
    let blank_pushed = c.in_ok-push_part-2.ensures.pushed c.args.joined.now before held in
    record {
      joined = (
        (before ++ blank ∷ []) ++ c.without_indent.result.now,
        c.in_ok-push_part-3.ensures.pushed c.args.joined.now (before ++ blank ∷ []) blank_pushed,
        rw (c.without_indent.ensures, append_assoc, append_assoc) (rw steps at joined),
      );
      name = c.push_part-in-loop-line-2.ensures.name ∙ c.push_part-in-loop-line.ensures.name
          ∙ c.loop-line.invariant.name;
      begins = All-tail (λ e. StartsWith e.line c.args.subsequent_indent.now) line left
          (rw steps at c.loop-line.invariant.begins);
      detected = ap (λ d. detected_among (d ∷ map (λ e. e.ending) left))
          c.stronger_ending-detected.ensures
          ∙ detected_among-two c.loop-line.detected c.in-Some-line.line.ending (map (λ e. e.ending) left)
          ∙ ap (λ es. detected_among (c.loop-line.detected ∷ map (λ e. e.ending) es)) (sym steps)
          ∙ c.loop-line.invariant.detected;
    }

pub returns-clause-joined : goal.returns-clause-joined
returns-clause-joined g c =
    let (so_far, held, joined) = c.loop-line.invariant.joined in
    subst (g.S.TextSink.holds c.args.joined.now c.loop-line.joined)
    (sym (append-nil so_far)
    ∙ (rw c.in-None.ensures.steps.0 at joined)) held

pub returns-clause-detected : goal.returns-clause-detected
returns-clause-detected g c = sym (detected_among-one c.loop-line.detected)
    ∙ (rw c.in-None.ensures.steps.0 at c.loop-line.invariant.detected)
