use Rattle.std.proofs.Common.{ap, ◌∙◌, arith}
use Rattle.std.proofs.lemmas.List.{take_all}
use Rattle.textwrap.specs.Division.{closed_width, open_width}
use Rattle.textwrap_vectors.specs.Days.{task_sizes}
use Rattle.textwrap.proofs.Dividing.{closed_width-push}
use Rattle.textwrap_vectors.proofs.scheduling.closed_hours.Goals as goal

pub returns : goal.returns
returns c =
    let others = c.in-Some.others.now in
    let last = c.in-Some.last.now in
    let all = take_all c.loop-task.task-index others (omega arith) in
    let opened = c.loop-task.invariant.hours ∙ ap (open_width task_sizes) all in
    let closed = ap (closed_width task_sizes) c.in-Some.ensures.cases.0
    ∙ closed_width-push task_sizes others last in
    omega (arith, opened, closed)
