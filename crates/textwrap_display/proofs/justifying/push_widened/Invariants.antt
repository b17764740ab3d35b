use Rattle.textwrap_display.proofs.justifying.push_widened.Given as goal
use Rattle.textwrap_display.proofs.Common.{flat, tiled, widened_words, words_of}
use Rattle.textwrap_display.proofs.WidenedWords.{widened_chunks}
use Rattle.textwrap_text.proofs.Common.{[], string_bytes, ◌++◌, ◌∷◌, ◌≡◌}

-- with the gap that comes next and the words that are left it is the whole
abbrev pub invariant-loop-word : goal.invariant-loop-word
invariant-loop-word g l = string_bytes l.text ++ flat (widened_chunks l.each l.left ([] ∷ l.word-iterator))
    ≡ string_bytes l.fn.text ++ tiled (widened_words l.each l.extra (words_of l.line))
