use Rattle.textwrap_display.proofs.needs.widest_part.Goals as goal
use Rattle.std.proofs.Common.{tests}
use Rattle.std.proofs.lemmas.Iterator.{Consumers.fold_from_yields_List, Splits.YieldsList-from_str_split}
use Rattle.textwrap_display.proofs.Common.{text_width}
use Rattle.textwrap_text.proofs.Common.{max, rules}

pub returns : goal.returns
returns c = fold_from_yields_List _ (λ most part. max most (text_width part)) _ _ c.fold.ensures.ran
    (YieldsList-from_str_split c.args.separator c.args.text.now c.requires c.split.ensures.text
    c.split.ensures.has_more c.split.ensures.pattern) (λ most part b q k. search (rules, tests))
