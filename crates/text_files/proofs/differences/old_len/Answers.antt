use Rattle.std.proofs.Common.{◌≡◌, ◌∙◌, rules, count_by}
use Rattle.text_files.{proofs.DiffLines.count_olds, specs.Differences.is_old}
use Rattle.text_files.proofs.differences.old_len.Goals as goal

pub returns : goal.returns
returns c =
    let counted : c.count.result ≡ count_by (λ line. is_old line.sign) c.args.lines.now = search rules in
    counted ∙ count_olds c.args.lines.now
