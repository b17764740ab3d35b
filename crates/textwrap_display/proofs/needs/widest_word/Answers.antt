use Rattle.textwrap_display.proofs.needs.widest_word.Goals as goal
use Rattle.std.proofs.{Common.lit<, Common.tests, lemmas.Iterator.Consumers.fold_from_yields_List}
use Rattle.std.{proofs.lemmas.Iterator.Splits.YieldsList-from_str_split, specs.List.slice_split}
use Rattle.textwrap_display.proofs.Common.{is_blank, widest}
use Rattle.textwrap_display.{proofs.FittingWidths.widest-parts, specs.Needs.lines_in}
use Rattle.textwrap_text.proofs.Common.{max, rules, ◌∙◌}

pub returns : goal.returns
returns c = fold_from_yields_List _ (λ most line. max most (widest (slice_split is_blank line))) _ _
    c.fold.ensures.ran (YieldsList-from_str_split 10 c.args.text.now (lit< tt) c.split.ensures.text
    c.split.ensures.has_more c.split.ensures.pattern) (λ most line b q k. search (rules, tests))
    ∙ widest-parts (slice_split is_blank) (lines_in c.args.text.now)
