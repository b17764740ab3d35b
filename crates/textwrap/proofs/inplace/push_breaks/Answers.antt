use Rattle.textwrap_text.proofs.Common.{rules}
use Rattle.textwrap.proofs.Common.{length-append, word_view, cases_lt, length, ⊎_elim, arith, ◌++◌}
use Rattle.textwrap.proofs.Common.{◌+◌, ◌<◌, ◌∙◌, ◌∷◌, ◌≤◌, [], ap}
use Rattle.textwrap.proofs.Text.InPlaceLines.{HasLine-within, HasLine-begin, HasLine-break, passed}
use Rattle.textwrap.proofs.Text.InPlaceLines.{HasLine-fits, HasLine-join, HasLine-none, HasLine-end}
use Rattle.textwrap.proofs.inplace.push_breaks.Goals as goal

pub loop-word-init : goal.loop-word-init
loop-word-init g c = (
  (
    [],
    HasLine-begin c.args.width c.args.start c.args.part.now c.args.breaks.now.items
        c.into_iter-word-iterator.result
        (c.into_iter-word-iterator.ensures.into_iter_gives ∙ c.words_at_blanks-word-items.ensures),
  ),
  omega arith,
)

pub returns-in_err-push-clause-succeeds : goal.returns-in_err-push-clause-succeeds
returns-in_err-push-clause-succeeds g c = λ fits.
    let (line, has) = c.loop-word.invariant.0 in
    let here = rw c.in-Some.ensures.steps at has in
    let within = HasLine-fits here fits c.if-line_start-end.true in
    absurd (omega (arith, within, c.if-open_width-word_width.true))

pub loop-word-preserved : goal.loop-word-preserved
loop-word-preserved g c =
    let (line, has) = c.loop-word.invariant.0 in
    let word = word_view c.in-Some.word in
    let now = c.if-line_start-end in
    let len = length word.word + length word.whitespace in
    let taken = now.open_width + (c.width-word_width.result + length word.whitespace) in
    let len_is = length-append word.word word.whitespace in
    let here = rw c.in-Some.ensures.steps at has in
    let within = HasLine-within here in
    elim now.branch [
      | goal.then-line_start-end+then-open_width-word_width+in_ok-push w ↦ (
        (
          word ∷ [],
          HasLine-break here now.line_start len taken now.breaks.items w.if-line_start-end.true
              (omega (arith, w.if-open_width-word_width.true)) w.line_start-is (omega (arith, len_is))
              (omega (arith, w.open_width-is))
              (ap (λ v. v.items) w.breaks-is ∙ w.in_ok-push.ensures.items),
        ),
        omega (arith, within, w.open_width-is),
      )
      | goal.else-line_start-end w ↦
          let room : c.loop-word.line_start < c.loop-word.end
          → c.loop-word.open_width + word.width ≤ c.args.width = elim w.else-line_start-end.branch [
            | goal.else-line_start-end-via-then-line_start-end+else-open_width-word_width v ↦
                λ began. omega (arith, v.if-open_width-word_width.false)
            | goal.else-line_start-end-via-else-line_start-end v ↦ λ began.
                absurd (omega (arith, began, v.if-line_start-end.false))
          ] in (
            (
              line ++ word ∷ [],
              HasLine-join here now.line_start len taken now.breaks.items room w.line_start-is
                  (omega (arith, len_is)) (omega (arith, w.open_width-is))
                  (ap (λ v. v.items) w.breaks-is),
            ),
            ⊎_elim
                (λ (began : c.loop-word.line_start < c.loop-word.end).
                omega (arith, within, w.open_width-is, room began))
                (λ (begun : c.loop-word.end ≤ c.loop-word.line_start).
                omega (arith, within, w.open_width-is, HasLine-none here begun))
                (cases_lt c.loop-word.line_start c.loop-word.end),
          )
    ]

pub returns-clause-breaks : goal.returns-clause-breaks
returns-clause-breaks g c =
    let (line, has) = c.loop-word.invariant.0 in HasLine-end has c.in-None.ensures.steps.0

pub overflow_add-end-in-loop-word : goal.overflow_add-end-in-loop-word
overflow_add-end-in-loop-word g c =
    search (rules, arith, length-append, passed, c.loop-word.invariant.0, c.in-Some.ensures.steps)
