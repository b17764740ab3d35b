use Rattle.std.proofs.Common.{◌≡◌, ◌++◌, drop, false, map, string_bytes}
use Rattle.text_filters.specs.Words.{spelled_out}
use Rattle.text_filters.proofs.words.push_spelled_out.Given as goal

-- with what the words that are left are written as, they are all
abbrev pub invariant-loop-word : goal.invariant-loop-word
invariant-loop-word l =
    map (λ word. word.now) l.spelled.items
    ++ spelled_out l.is_past (map string_bytes (drop l.word-index l.words))
    ≡ map (λ word. word.now) l.fn.spelled.items ++ spelled_out false (map string_bytes l.words)
