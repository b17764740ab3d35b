use Rattle.std.proofs.Common.{◌∙◌, ◌∷◌, ap₂, rules, arith, length, sym}
use Rattle.std.proofs.lemmas.List.{drop_all, take_all}
use Rattle.text_files.specs.Differences.{text_lines}
use Rattle.text_files.proofs.DiffLines.{text_lines-first, text_lines-one}
use Rattle.text_files.proofs.differences.line_len.Goals as goal

pub returns-then-byte-eq10-clause-line : goal.returns-then-byte-eq10-clause-line
returns-then-byte-eq10-clause-line c some =
    text_lines-first c.args.text.now c.loop-at.at (omega arith) c.loop-at.invariant (search rules)

pub returns-clause-line : goal.returns-clause-line
returns-clause-line c some =
    let text = c.args.text.now in
    text_lines-one text some (λ k below. c.loop-at.invariant k (omega arith))
    ∙ ap₂ (λ line rest. line ∷ text_lines rest) (sym (take_all (length text) text (omega arith)))
    (sym (drop_all (length text) text (omega arith)))
