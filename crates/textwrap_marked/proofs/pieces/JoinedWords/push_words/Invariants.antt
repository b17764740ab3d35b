use Rattle.textwrap_marked.proofs.pieces.JoinedWords.push_words.Given as goal
use Rattle.textwrap_marked.proofs.Common.{spaced_words, joined_view, with_words, List, ◌++◌, map, ◌≡◌, ℕ}

-- with the words that are left, and any behind them, the whole stays the same
abbrev pub invariant-loop-word : goal.invariant-loop-word
invariant-loop-word l = (words : List (List ℕ))
    → with_words l.options l.starred (joined_view l.self)
    (map (λ w. w.word) l.word-iterator ++ words)
    ≡ with_words l.options l.starred (joined_view l.fn.self)
    (map (λ w. w.word) (spaced_words l.line) ++ words)
