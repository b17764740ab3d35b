use Rattle.textwrap_words.proofs.words.breaking.stay_whole.Goals as goal
use Rattle.textwrap_text.proofs.Common.{drop_more, nat_tests, drop_all, get_or, length, arith, List}
use Rattle.textwrap_text.proofs.Common.{drop, map, ◌+◌, ◌<◌, ◌≡◌, ◌≤◌, ℕ}
use Rattle.textwrap_words.proofs.Common.{broken_words, word_view, Word}

one-more : (limit : ℕ) (words : List Word) (i : ℕ) (d : Word) → i < length words
    → (get_or words i d).width ≤ limit
    → broken_words limit (map word_view (drop (i + 1) words)) ≡ map word_view (drop (i + 1) words)
    → broken_words limit (map word_view (drop i words)) ≡ map word_view (drop i words)
one-more limit words i d inside fits later = grind (arith, drop_more, nat_tests)

pub loop-word-init : goal.loop-word-init
loop-word-init c = λ all. all

pub loop-word-preserved : goal.loop-word-preserved
loop-word-preserved c = grind (arith, one-more)

pub returns : goal.returns
returns c = grind (arith, drop_all)
