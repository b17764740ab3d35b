use Rattle.textwrap_unicode.proofs.cuts.is_word_class.Goals as goal

pub returns-in-Alphabetic : goal.returns-in-Alphabetic
returns-in-Alphabetic c = λ _. c.in-Alphabetic.is
