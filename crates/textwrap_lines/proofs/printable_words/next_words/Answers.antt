use Rattle.textwrap_lines.proofs.PrintableTexts.Lines.{blanks-keep}
use Rattle.textwrap_lines.proofs.printable_words.next_words.Goals as goal

pub returns-then-past-text-clause-fit : goal.returns-then-past-text-clause-fit
returns-then-past-text-clause-fit g c = λ _. blanks-keep c.args.text.now c.args.at c.args.room
    c.blanks_end-past.result c.blanks_end-past.ensures.within c.blanks_end-past.ensures.blanks
