use Rattle.filter_programs.specs.HyphenateTexts.{hyphenated_word}
use Rattle.textwrap.proofs.Common.{flat_map, string_bytes, map, ◌≡◌}
use Rattle.textwrap_hyphens.specs.Table.{held}
use Rattle.filter_programs.proofs.hyphenate.texts.hyphenated_words.Given as goal

-- what is made so far are the lines so far, each as a word
abbrev pub invariant-loop-word : goal.invariant-loop-word
invariant-loop-word l = string_bytes l.made
    ≡ flat_map (hyphenated_word (held l.patterns)) (map (λ word. word.now) l.yielded)
