use Rattle.textwrap_layout.proofs.pieces.split_each.Given as goal
use Rattle.textwrap_text.proofs.Common.{All, List, ◌++◌, ◌≡◌, map, text_width}
use Rattle.textwrap_words.proofs.Common.{AreSplit, WordText, word_view}

-- the pieces so far are those of the words before the ones that are left, which have their widths
abbrev pub invariant-loop-word : goal.invariant-loop-word
invariant-loop-word g l = record {
  words : (before : List WordText) × (l.fn.words ≡ before ++ l.word-iterator)
      × AreSplit (g.P.Parts.may l.parts).Points before (map word_view l.pieces.items);
  measured : All (λ word. word.width ≡ text_width word.word) l.word-iterator;
}
