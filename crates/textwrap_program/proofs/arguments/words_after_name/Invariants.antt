use Rattle.std.specs.{Iterator.IsFinite, Prelude.◌≡◌}
use Rattle.textwrap_program.proofs.arguments.words_after_name.Given as goal

abbrev pub invariant-loop-word : goal.invariant-loop-word
invariant-loop-word g l = g.I.Iterator.can_next l.word-iterator
    × IsFinite (g.I.Iterator.remaining l.word-iterator) × (l.words.items ≡ l.yielded)
