use Rattle.textwrap_more_calls.proofs.pieces.place_words.Given as goal
use Rattle.textwrap_calls.proofs.Common.{drop, length, map, tiled, word_view, ◌++◌, ◌+◌, ◌≡◌}
use Rattle.textwrap_more_calls.specs.Pieces.{piece_places}

-- the places so far, and those of the words that follow, are those of all words; these have no more
-- bytes than the text
abbrev pub invariant-loop-word : goal.invariant-loop-word
invariant-loop-word l = record {
  places : l.places.items ++ piece_places l.offset (map word_view (drop l.word-index l.words))
      ≡ piece_places 0 (map word_view l.words);
  room : l.offset + length (tiled (map word_view (drop l.word-index l.words))) ≡ length l.text;
}
