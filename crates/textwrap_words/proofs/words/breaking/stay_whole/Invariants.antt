use Rattle.textwrap_words.proofs.words.breaking.stay_whole.Given as goal
use Rattle.textwrap_text.proofs.Common.{drop, map, ◌≡◌}
use Rattle.textwrap_words.proofs.Common.{broken_words, word_view}

-- if the words that are left stay whole, all do
abbrev pub invariant-loop-word : goal.invariant-loop-word
invariant-loop-word l =
    let left = map word_view (drop l.word-index l.words) in
    broken_words l.line_width left ≡ left
    → broken_words l.line_width (map word_view l.words) ≡ map word_view l.words
