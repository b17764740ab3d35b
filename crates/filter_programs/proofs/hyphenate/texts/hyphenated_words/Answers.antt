use Rattle.filter_programs.proofs.hyphenate.texts.hyphenated_words.Goals as goal
use Rattle.filter_programs.specs.HyphenateTexts.{hyphenated_word}
use Rattle.std.{proofs.lemmas.Iterator.Splits.YieldsList-from_lines, specs.List.flat_map}
use Rattle.textwrap_hyphens.specs.Table.{held}
use Rattle.textwrap_text.proofs.Common.{YieldsList-end, ap, ◌∙◌}

pub returns : goal.returns
returns c =
    let all = YieldsList-end (YieldsList-from_lines c.args.text.now cc) c.loop-word.yielded
    _ c.loop-word.yielded_by _ _ c.in-None.is c.next.ensures.steps in
    c.loop-word.invariant
    ∙ ap (flat_map (hyphenated_word (held c.args.patterns.now))) all.0
