use Rattle.std.specs.Cmp.{booleans_Decides}
use Rattle.textwrap_text.proofs.ClassNames.{ne_eqb, sym, ◌∙◌}
use Rattle.textwrap_unicode.proofs.PrintableCuts.{usual-cut}
use Rattle.textwrap_unicode.proofs.pairs.is_usual.Goals as goal

pub returns-then-after-ne32 : goal.returns-then-after-ne32
returns-then-after-ne32 c =
    let both = usual-cut c.args.text.now c.requires.printable c.args.place c.requires.after_start
    c.requires.inside (ne_eqb _ 32 c.if-after-ne32.true) in (
      λ same. both.0 (sym c.is_cut_between.ensures ∙ (booleans_Decides _ _).0 same),
      λ usual. (booleans_Decides _ _).1 (c.is_cut_between.ensures ∙ both.1 usual),
    )
