use Rattle.textwrap_base.proofs.optimal_fit.wrap_optimal_fit_counted.Goals as goal
use Rattle.textwrap_text.proofs.Common.{inl, Vec, ◌∙◌}
use Rattle.textwrap_base.{proofs.Common.Minimum, specs.declared.errors.WrapError.TheVariants.Memory}
use Rattle.textwrap_base.proofs.Cost.Results.{optimal-refused, optimal-returned, search-refused}
use Rattle.textwrap_base.proofs.Cost.Results.{results-same, steps-refused}
use Rattle.textwrap_base.proofs.Cost.Table.{first_reported, length_reported, starts_reported}
use Rattle.textwrap_base.proofs.Cost.Table.{later_reported}

pub lines_by-requires-clause-len : goal.lines_by-requires-clause-len
lines_by-requires-clause-len g c =
    length_reported _ _ _ (c.deref.ensures.value ∙ c.in_ok-minima.ensures.entries)

pub lines_by-requires-clause-first : goal.lines_by-requires-clause-first
lines_by-requires-clause-first g c =
    first_reported _ _ _ (c.deref.ensures.value ∙ c.in_ok-minima.ensures.entries)

pub lines_by-requires-clause-later : goal.lines_by-requires-clause-later
lines_by-requires-clause-later g c =
    later_reported _ _ _ (c.deref.ensures.value ∙ c.in_ok-minima.ensures.entries)

pub returns-clause-fit : goal.returns-clause-fit
returns-clause-fit g c =
    let starts = starts_reported _ _ _ (c.deref.ensures.value ∙ c.in_ok-minima.ensures.entries) in
    optimal-returned _ _ c.in_ok-lines_by.field-0 record {
      division = c.in_ok-lines_by.ensures.division;
      starts = rw starts at c.in_ok-lines_by.ensures.follow;
    } c.in_ok-minima.ensures.ok_only

pub returns-in_err-minima-clause-fit : goal.returns-in_err-minima-clause-fit
returns-in_err-minima-clause-fit g c =
    optimal-refused _ _ (Vec Minimum g.row.A.Denot) c.from_residual.result c.in_err-minima.field-0.0
    c.from_residual.ensures.1 c.in_err-minima.ensures.overflow_only c.in_err-minima.ensures.too_wide
    c.in_err-minima.ensures.no_overflow

pub returns-clause-same : goal.returns-clause-same
returns-clause-same g c = results-same _ _ _ (returns-clause-fit g c)

pub returns-in_err-minima-clause-same : goal.returns-in_err-minima-clause-same
returns-in_err-minima-clause-same g c = results-same _ _ _ (returns-in_err-minima-clause-fit g c)

pub returns-in_err-lines_by-clause-fit : goal.returns-in_err-lines_by-clause-fit
returns-in_err-lines_by-clause-fit g c =
    let none = c.in_ok-minima.ensures.ok_only in
    optimal-refused _ _ (Vec Minimum g.row.A.Denot) c.from_residual-in_err-lines_by.result
    (Memory c.in_err-lines_by.field-0.0) c.from_residual-in_err-lines_by.ensures.1
    (λ over. absurd over) (λ wide. absurd (none (inl wide))) (λ narrow over. over)

pub returns-in_err-lines_by-clause-same : goal.returns-in_err-lines_by-clause-same
returns-in_err-lines_by-clause-same g c =
    results-same _ _ _ (returns-in_err-lines_by-clause-fit g c)

pub returns-in_err-minima-clause-steps : goal.returns-in_err-minima-clause-steps
returns-in_err-minima-clause-steps g c = λ none.
    steps-refused _ _ _ _ c.from_residual.result c.in_err-minima.field-0.0 c.from_residual.ensures.1
    (λ over. over) (c.in_err-minima.ensures.steps none)

pub returns-in_err-minima-clause-queue_steps : goal.returns-in_err-minima-clause-queue_steps
returns-in_err-minima-clause-queue_steps g c = λ case.
    search-refused _ _ _ _ c.from_residual.result _ c.from_residual.ensures.1
    (c.in_err-minima.ensures.queue_steps case)

pub returns-in_err-lines_by-clause-steps : goal.returns-in_err-lines_by-clause-steps
returns-in_err-lines_by-clause-steps g c = λ none.
    steps-refused _ _ _ _ c.from_residual-in_err-lines_by.result
    (Memory c.in_err-lines_by.field-0.0) c.from_residual-in_err-lines_by.ensures.1
    (λ over. over) (c.in_ok-minima.ensures.steps none)

pub returns-in_err-lines_by-clause-queue_steps : goal.returns-in_err-lines_by-clause-queue_steps
returns-in_err-lines_by-clause-queue_steps g c = λ case.
    search-refused _ _ _ _ c.from_residual-in_err-lines_by.result _
    c.from_residual-in_err-lines_by.ensures.1 (c.in_ok-minima.ensures.queue_steps case)

pub returns-clause-steps : goal.returns-clause-steps
returns-clause-steps g c = λ none.
    let h = c.in_ok-minima.ensures.steps none in
    record {
      ok = h.ok;
      exact = h.exact;
      most = h.most;
      least = h.least;
      too_wide = h.too_wide;
      overflow = λ fits over. absurd over;
    }

pub returns-clause-queue_steps : goal.returns-clause-queue_steps
returns-clause-queue_steps g c = λ case.
    let h = c.in_ok-minima.ensures.queue_steps case in
    record { most = h.most; never_less = h.never_less; ok = h.ok; from_none = h.from_none }
