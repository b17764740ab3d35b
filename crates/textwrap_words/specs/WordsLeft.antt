-- The words that an iterator over them has still to give.
use Rattle.std.specs.Prelude.{List, map}
use Rattle.std.specs.Vec.Iter.{into_iter_items}
use Rattle.textwrap_words.specs.Words.{WordText, word_view, word_of}
use Rattle.textwrap_words.specs.declared.word_separators.words.Source.{Source}
use Rattle.textwrap_words.specs.declared.word_separators.words.Source.TheVariants.{Line, Found}

-- those of the rest of a line, or those left of the ones that were found
abbrev pub words_left : {Z : Type 0} → Source Z → List WordText
words_left (Line chunks) = map word_of chunks
words_left (Found words) = map word_view (into_iter_items words)
