use Rattle.std.proofs.Common.{◌≡◌, ℕ, ◌++◌, List, [], ◌∷◌, length, map, refl, sym, ap, ◌∙◌, arith}
use Rattle.std.proofs.lemmas.List.{length-map, map-append, take_all}
use Rattle.std.proofs.lemmas.List.Folds.{flat_map-map}
use Rattle.std.proofs.lemmas.Simd.{map-map}
use Rattle.std.specs.List.{flat_map}
use Rattle.textwrap_vectors.specs.Days.{PlannedDay, names_of, day_view, day_of, AreDays}
use Rattle.textwrap_vectors.specs.declared.scheduling.Task.{Task}
use Rattle.textwrap.proofs.Dividing.{IsDivision-whole}
use Rattle.textwrap_vectors.proofs.scheduling.assign_days.Goals as goal

names_of_lines : (lines : List (List Task))
    → flat_map names_of lines ≡ names_of (flat_map (λ line. line) lines)
names_of_lines [] = refl
names_of_lines (line ∷ lines) = ap (λ names. names_of line ++ names) (names_of_lines lines)
    ∙ sym (map-append (λ task. task.name.now) line (flat_map (λ line. line) lines))

names_of_days : (day_length : ℕ) (tasks : List Task) (days : List PlannedDay)
    → AreDays day_length tasks days → flat_map (λ day. day.names) days ≡ names_of tasks
names_of_days day_length tasks days (lines, greedy, are) =
    ap (flat_map (λ day. day.names)) are ∙ flat_map-map (λ day. day.names) day_of lines
    ∙ names_of_lines lines ∙ ap names_of (IsDivision-whole tasks lines greedy.admissible.division)

pub returns-clause-days : goal.returns-clause-days
returns-clause-days g c =
    let lines = c.in_ok-lines.lines.items in
    let all = take_all c.loop-line.line-index c.deref-line-items.result.now (omega arith) in (
      map (λ line. line.now) lines,
      c.in_ok-lines.ensures.greedy,
      c.loop-line.invariant
          ∙ ap (map (λ line. day_of line.now)) (all ∙ c.deref-line-items.ensures.value)
          ∙ sym (map-map day_of (λ line. line.now) lines),
    )

pub returns-clause-complete : goal.returns-clause-complete
returns-clause-complete g c =
    sym (flat_map-map (λ day. day.names) day_view c.loop-line.days.items)
    ∙ names_of_days c.args.day_length c.args.tasks.now (map day_view c.loop-line.days.items)
    (returns-clause-days g c)

pub returns-clause-fewest : goal.returns-clause-fewest
returns-clause-fewest g c plan admissible =
    let lines = c.deref-line-items.result.now in
    let all = take_all c.loop-line.line-index lines (omega arith) in
    let same = ap length (c.loop-line.invariant ∙ ap (map (λ line. day_of line.now)) all) in
    let fewest = c.in_ok-lines.ensures.fewest plan admissible in
    omega (
      arith,
      fewest,
      same,
      length-map c.loop-line.days.items day_view,
      length-map lines (λ line. day_of line.now),
      ap length c.deref-line-items.ensures.value,
    )
