use Rattle.vectors_beside.proofs.Common.{default_algorithm, string_bytes, unbroken_at, Whole, rules}
use Rattle.vectors_beside.proofs.uses.comments.rewrapped.Goals as goal

pub returns-clause-kept : goal.returns-clause-kept
returns-clause-kept c = λ first one text filled.
    let refilled = c.in_ok-rewrapped.ensures.built_in (unbroken_at c.args.width) Whole
    default_algorithm (search rules) in
    (c.refilling_keeps_indents.ensures.indents first (unbroken_at c.args.width) one
    default_algorithm Whole text c.args.comment.now
    (string_bytes c.in_ok-rewrapped.rewrapped) filled).0 refilled
