use Rattle.textwrap_marked.proofs.first_fit.OpenParagraph.push_words.Given as goal
use Rattle.textwrap_marked.proofs.Common.{spaced_words, string_bytes, List, left, ◌++◌, map, ◌≡◌, ℕ}

-- with the words that are left, and any behind them, the whole stays the same
abbrev pub invariant-loop-word : goal.invariant-loop-word
invariant-loop-word l = (words : List (List ℕ))
    → string_bytes l.output ++ left l.form l.self
    (map (λ w. w.word) l.word-iterator ++ words)
    ≡ string_bytes l.fn.output ++ left l.form l.fn.self
    (map (λ w. w.word) (spaced_words l.line) ++ words)
