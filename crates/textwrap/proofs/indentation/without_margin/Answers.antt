use Rattle.textwrap.proofs.indentation.without_margin.Goals as goal
use Rattle.textwrap.proofs.Common.{is_blank_line, false, sym, ◌∙◌, ◌≡◌}
use Rattle.textwrap_text.proofs.Texts.{after-margin}

pub range_from-requires : goal.range_from-requires
range_from-requires c =
    let full : is_blank_line c.args.line.now ≡ false =
    sym c.is_blank_line.ensures ∙ c.if-is_blank_line.false in
    λ some. (after-margin c.args.line.now c.args.margin.now c.utf8.line c.utf8.margin
    (c.requires full)).0

pub returns : goal.returns
returns c =
    let full : is_blank_line c.args.line.now ≡ false =
    sym c.is_blank_line.ensures ∙ c.if-is_blank_line.false in
    rw full (c.range_from.ensures.value ∙ (after-margin c.args.line.now c.args.margin.now
    c.utf8.line c.utf8.margin (c.requires full)).1)
