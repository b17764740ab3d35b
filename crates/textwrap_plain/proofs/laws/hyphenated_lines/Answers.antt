use Rattle.textwrap_plain.proofs.laws.hyphenated_lines.Goals as goal
use Rattle.textwrap_hyphens.specs.Table.{held}
use Rattle.textwrap_plain.proofs.Wrapping.{AddOnlyHyphens-hyphenated, ArePrintedWithin-hyphenated}
use Rattle.textwrap_plain.proofs.Wrapping.{AreTheText-hyphenated, IsWrapped-hyphenated, at-points}
use Rattle.textwrap_plain.proofs.Wrapping.{LinesKeepButHyphens-hyphenated, LinesKeepToWidth-hyphenated}

pub returns-clause-wrapped : goal.returns-clause-wrapped
returns-clause-wrapped g c = IsWrapped-hyphenated c.args.options.now c.args.patterns.now

pub returns-clause-hyphens : goal.returns-clause-hyphens
returns-clause-hyphens g c = AddOnlyHyphens-hyphenated c.args.options.now c.args.patterns.now

pub returns-clause-spelled : goal.returns-clause-spelled
returns-clause-spelled g c = λ built_in settings text lines utf8 are.
    AreTheText-hyphenated c.args.options.now c.args.patterns.now settings text lines utf8 are built_in

pub returns-clause-keep : goal.returns-clause-keep
returns-clause-keep g c = λ first settings text lines utf8 are.
    LinesKeepButHyphens-hyphenated c.args.options.now c.args.patterns.now settings text lines utf8 are
    first

pub returns-clause-even : goal.returns-clause-even
returns-clause-even g c = λ first settings text lines utf8 are.
    LinesKeepToWidth-hyphenated c.args.options.now c.args.patterns.now settings text lines utf8 are
    first

pub returns-clause-printed : goal.returns-clause-printed
returns-clause-printed g c = λ first settings text lines utf8 are.
    ArePrintedWithin-hyphenated c.args.options.now c.args.patterns.now settings text lines utf8 are
    first

pub returns-clause-built_in : goal.returns-clause-built_in
returns-clause-built_in g c = at-points c.args.options.now (held c.args.patterns.now)
