use Rattle.textwrap_marked_lines.proofs.fences.has_pre.Goals as goal
use Rattle.textwrap_marks.proofs.Common.{spaced_words, codes, refl, not, sym, ◌∙◌, ap}
use Rattle.textwrap_marks.proofs.PlainWords.{plain-contains}

pub returns-else-not-plain : goal.returns-else-not-plain
returns-else-not-plain c =
    let plain = c.if-not-plain.false in
    ap not plain ∙ sym (plain-contains (codes "<pre") refl (spaced_words c.args.text.now) (c.requires plain))
