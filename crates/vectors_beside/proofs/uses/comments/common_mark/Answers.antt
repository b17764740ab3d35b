use Rattle.vectors_beside.proofs.Common.{line_prefix, lines, drop, map, sym, ◌∙◌, ap}
use Rattle.vectors_beside.proofs.uses.comments.common_mark.Goals as goal

pub returns : goal.returns
returns c = record {
  common = λ prefix is. ap (λ settings. settings.subsequent_indent) c.in_ok-_text.ensures.settings
      ∙ sym ((c.common_prefixes_are_unique.ensures
      (map line_prefix (drop 1 (lines c.args.comment.now))) prefix).0 is);
}
