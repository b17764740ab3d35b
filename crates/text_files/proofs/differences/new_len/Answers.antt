use Rattle.std.proofs.Common.{◌≡◌, ◌∙◌, rules, count_by}
use Rattle.text_files.{proofs.DiffLines.count_news, specs.Differences.is_new}
use Rattle.text_files.proofs.differences.new_len.Goals as goal

pub returns : goal.returns
returns c =
    let counted : c.count.result ≡ count_by (λ line. is_new line.sign) c.args.lines.now = search rules in
    counted ∙ count_news c.args.lines.now
