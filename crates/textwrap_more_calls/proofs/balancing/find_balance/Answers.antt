use Rattle.textwrap_more_calls.proofs.balancing.find_balance.Goals as goal

pub returns-in-AtBlanks-clause-balanced : goal.returns-in-AtBlanks-clause-balanced
returns-in-AtBlanks-clause-balanced c =
    rw c.in-AtBlanks.is (rw c.layout-layout.ensures at c.balanced_width.ensures.balanced)

pub returns-in-AtBreaks-clause-balanced : goal.returns-in-AtBreaks-clause-balanced
returns-in-AtBreaks-clause-balanced c =
    rw (c.layout-layout.ensures, c.parts.ensures.words, c.parts.ensures.splitter)
    at c.balanced_width-in-AtBreaks.ensures.balanced
