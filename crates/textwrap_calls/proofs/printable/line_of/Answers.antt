use Rattle.std.proofs.Common.{ap, refl, take, ne_eqb}
use Rattle.textwrap_calls.proofs.PrintableLines.{line-refilled, only-line, only-line-filled}
use Rattle.textwrap_calls.proofs.printable.line_of.Goals as goal

pub returns-then-options-ne0-clause-line : goal.returns-then-options-ne0-clause-line
returns-then-options-ne0-clause-line c =
    let o = c.args.options.now in
    only-line o c.args.text.now c.args.text.now c.requires.bare.initial c.requires.short c.requires.free
    (rw (ne_eqb o.preserve_trailing_space 0 c.if-options-ne0.true) refl)

pub returns-then-options-ne0-clause-filled : goal.returns-then-options-ne0-clause-filled
returns-then-options-ne0-clause-filled c =
    only-line-filled c.args.options.now c.args.text.now c.args.text.now
    (returns-then-options-ne0-clause-line c)

pub returns-then-options-ne0-clause-refilled : goal.returns-then-options-ne0-clause-refilled
returns-then-options-ne0-clause-refilled c = λ none.
    let o = c.args.options.now in
    line-refilled o c.args.text.now c.args.text.now c.requires.short c.requires.free none
    (rw (ne_eqb o.preserve_trailing_space 0 c.if-options-ne0.true) refl)

pub returns-clause-line : goal.returns-clause-line
returns-clause-line c =
    let o = c.args.options.now in
    let text = c.args.text.now in
    only-line o text (take c.trimmed_len.result text) c.requires.bare.initial c.requires.short
    c.requires.free
    (rw c.if-options-ne0.false (ap (λ n. take n text) c.trimmed_len.ensures.value))

pub returns-clause-filled : goal.returns-clause-filled
returns-clause-filled c =
    only-line-filled c.args.options.now c.args.text.now (take c.trimmed_len.result c.args.text.now)
    (returns-clause-line c)

pub returns-clause-refilled : goal.returns-clause-refilled
returns-clause-refilled c = λ none.
    let o = c.args.options.now in
    let text = c.args.text.now in
    line-refilled o text (take c.trimmed_len.result text) c.requires.short c.requires.free none
    (rw c.if-options-ne0.false (ap (λ n. take n text) c.trimmed_len.ensures.value))
