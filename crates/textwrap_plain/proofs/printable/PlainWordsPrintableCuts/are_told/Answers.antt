use Rattle.textwrap_plain.proofs.printable.PlainWordsPrintableCuts.are_told.Goals as goal
use Rattle.textwrap_plain.specs.declared.options.PlainSeparator.TheVariants.{AtBreaks}
use Rattle.textwrap_text.proofs.Common.{ap, map, rules, ◌≡◌}
use Rattle.textwrap_unicode.proofs.PrintableCuts.{parts-cut}
use Rattle.textwrap_unicode.specs.declared.numbers.Numbers.TheVariants.{ByPairs}
use Rattle.textwrap_words.proofs.{Common.word_of, Word.Parts.blank-words}

pub returns-in-AtBlanks : goal.returns-in-AtBlanks
returns-in-AtBlanks c = λ _ text printable.
    rw c.in-AtBlanks.is (blank-words text)

pub returns-in-AtBreaks-ByPairs : goal.returns-in-AtBreaks-ByPairs
returns-in-AtBreaks-ByPairs c = λ _ text printable.
    let is : c.args.self.now.separator ≡ AtBreaks ByPairs = search rules in
    rw is (ap (map word_of) (parts-cut text printable))
