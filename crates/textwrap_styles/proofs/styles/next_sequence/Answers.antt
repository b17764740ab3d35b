use Rattle.textwrap_styles.proofs.styles.next_sequence.Goals as goal
use Rattle.std.{proofs.lemmas.Str.Pattern.split_parts, specs.Str.NoCharPasses}
use Rattle.textwrap_styles.proofs.{Common.sequences, styles.next_sequence.Goals.In_ok-before}
use Rattle.textwrap_styles.proofs.Sequences.{end-boundary, no_sequences, sequences-next, tail_len}
use Rattle.textwrap_text.proofs.Common.{◌+◌, ◌++◌, arith, drop, eqb, IsCharBoundary, length, slice_range}
use Rattle.textwrap_text.proofs.Common.{subst, sym, ℕ, ◌∷◌, ◌≡◌}

pub returns-in_err-before-clause-sequences : goal.returns-in_err-before-clause-sequences
returns-in_err-before-clause-sequences c =
    rw c.from_residual.ensures (no_sequences c.args.text.now c.utf8.text c.in_err-before.ensures.cases)

whole : (c : In_ok-before) → c.args.text.now ≡ c.in_ok-before.before.now ++ 27 ∷ c.in_ok-before.after.now
whole c =
    let parts = split_parts 27 c.args.text.now c.split_once.result c.split_once.ensures.cases (omega arith) in
    (rw c.in_ok-before.was at parts).0

boundary : (c : In_ok-before) (n : ℕ) → n ≡ tail_len c.in_ok-before.after.now
    → IsCharBoundary c.args.text.now (length c.in_ok-before.before.now + 1 + n)
boundary c n is =
    subst (λ k. IsCharBoundary c.args.text.now (length c.in_ok-before.before.now + 1 + k)) (sym is)
    (end-boundary c.args.text.now c.in_ok-before.before.now c.in_ok-before.after.now c.utf8.text (whole c))

pub overflow_add-end-2 : goal.overflow_add-end-2
overflow_add-end-2 c =
    omega (arith, (boundary (goal.at.overflow_add-end-2 c).In_ok-before _ c.sequence_tail_len.ensures).0)

pub range-requires-clause-end_boundary : goal.range-requires-clause-end_boundary
range-requires-clause-end_boundary c =
    boundary (goal.at.range-requires-clause-end_boundary c).In_ok-before _ c.sequence_tail_len.ensures

pub range_from-requires : goal.range_from-requires
range_from-requires c = λ _.
    boundary (goal.at.range_from-requires c).In_ok-before _ c.sequence_tail_len.ensures

pub returns-clause-sequences : goal.returns-clause-sequences
returns-clause-sequences c =
    let text = c.args.text.now in
    let place = length c.in_ok-before.before.now in
    let found = c.in_ok-before.ensures.cases in
    let next : sequences text ≡ slice_range text place (place + 1 + c.sequence_tail_len.result)
    ∷ sequences (drop (place + 1 + c.sequence_tail_len.result) text) =
    rw c.sequence_tail_len.ensures (sequences-next text c.in_ok-before.before.now
    c.in_ok-before.after.now c.utf8.text (whole (goal.at.returns-clause-sequences c).In_ok-before)
    (subst (NoCharPasses (λ d. eqb d 27)) (sym found.3) found.2.0)) in
    rw (c.range.ensures.value, c.range_from.ensures.value) next
