use Rattle.textwrap_text.proofs.Common.{rules}
use Rattle.textwrap.proofs.Common.{length, arith, ◌==◌, ◌∙◌, ap}
use Rattle.textwrap.proofs.Text.Margins.{is_blank_line-trim_start, is_blank_line-visible}
use Rattle.textwrap.proofs.indentation.is_blank_line.Goals as goal

pub returns-in-33-to-126 : goal.returns-in-33-to-126
returns-in-33-to-126 c = search (rules, arith, is_blank_line-visible, c.as_bytes.ensures.value)

pub returns-in_default : goal.returns-in_default
returns-in_default c = c.is_empty.ensures ∙ ap (λ t. length t == 0) c.trim_start.ensures.trim
    ∙ is_blank_line-trim_start c.args.text.now
