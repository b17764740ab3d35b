use Rattle.textwrap.proofs.indentation.margin_of.Given as goal
use Rattle.textwrap.proofs.Common.{option_map, margin_of, texts_of, chars, ◌≡◌}
use Rattle.textwrap.proofs.Text.Margins.{margin_after}

-- the margin so far, narrowed by the lines to come, is that of the text
abbrev pub invariant-loop-line : goal.invariant-loop-line
invariant-loop-line l = margin_after (option_map (λ m. chars m.now) l.margin)
    (texts_of l.line-iterator) ≡ margin_of l.s
