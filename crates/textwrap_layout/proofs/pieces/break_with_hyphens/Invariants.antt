use Rattle.textwrap_layout.proofs.pieces.break_with_hyphens.Given as goal
use Rattle.textwrap_text.proofs.Common.{List, drop, flat_map, length, map, ℕ, ◌++◌, ◌-◌, ◌≡◌}
use Rattle.textwrap_layout.proofs.Common.{WordText, broken_word, word_view}

abbrev by_room : ℕ → List WordText → List WordText
by_room limit = flat_map (λ w. broken_word (limit - length w.penalty) w)

-- those so far, and those of the words that are left, are all
abbrev pub invariant-loop-word : goal.invariant-loop-word
invariant-loop-word g l =
    map word_view l.pieces.items
    ++ by_room l.line_width (map word_view (drop l.word-index l.words))
    ≡ by_room l.line_width (map word_view l.words)
