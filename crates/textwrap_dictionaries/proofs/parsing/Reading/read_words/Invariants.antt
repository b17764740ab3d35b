use Rattle.std.proofs.Common.{◌≡◌, drop, filter, map, not}
use Rattle.textwrap_dictionaries.specs.Entries.{item_said}
use Rattle.textwrap_dictionaries.specs.Parsing.{is_empty, reading_view, text_said, with_all}
use Rattle.textwrap_dictionaries.proofs.parsing.Reading.read_words.Given as goal

-- what the words that are left say comes to what all say
abbrev pub invariant-loop-word : goal.invariant-loop-word
invariant-loop-word g l = with_all l.number
    (map (item_said l.section) (filter (λ word. not (is_empty word))
    (map (λ word. word.now) (drop l.word-index l.word-items))))
    (reading_view l.self)
    ≡ with_all l.number (text_said l.section l.text) (reading_view l.initial.self)
