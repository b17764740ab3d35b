-- The lemmas that the laws are proved by.
use Rattle.textwrap_display.proofs.FittingWidths.{fitting-least, fitting-most, fitting-scarce, fitting-sum}
use Rattle.textwrap_display.proofs.{FittingWidths.fitting-within, JustifiedLines.justified-as}
use Rattle.textwrap_display.proofs.{KeptWords.word_texts-take, TabTexts.expanded-cut, TabTexts.expanded-free}
use Rattle.textwrap_display.proofs.TabTexts.{expanded-lines, expanded-twice, no_tab-left, tab-reaches}
use Rattle.textwrap_display.proofs.{TableGroups.each-line-shown, TableGroups.rows-even, Widths.aligned-pens}
use Rattle.textwrap_display.proofs.Widths.{aligned-width, justified-pens, justified-width, rows-apart}

pub ruleset lines = (aligned-pens, aligned-width, justified-pens, justified-width, word_texts-take)

pub ruleset tabs = (expanded-cut, expanded-free, expanded-lines, expanded-twice, no_tab-left)

pub ruleset widths = (fitting-least, fitting-most, fitting-scarce, fitting-sum, fitting-within)

pub ruleset laws = (lines, tabs, widths, tab-reaches, each-line-shown, justified-as, rows-apart, rows-even)
