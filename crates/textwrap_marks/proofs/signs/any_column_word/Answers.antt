use Rattle.textwrap_marks.proofs.signs.any_column_word.Goals as goal
use Rattle.textwrap_marks.proofs.{Common.spaced_words, Common.sym, PlainWords.plain-none}

pub returns-then-plain : goal.returns-then-plain
returns-then-plain c =
    sym (plain-none (spaced_words c.args.text.now) (c.requires c.if-plain.true))
