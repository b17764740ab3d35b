use Rattle.textwrap_text.proofs.ClassNames.{is_blank, ne_eqb, arith, sym, ◌∙◌, ap}
use Rattle.textwrap_text.proofs.ClassLemmas.{ascii_unit}
use Rattle.textwrap_unicode.proofs.PrintableCuts.{cut-told}
use Rattle.textwrap_unicode.proofs.pairs.is_cut_between.Goals as goal

pub returns-then-after-eq32 : goal.returns-then-after-eq32
returns-then-after-eq32 c = sym (rw (ap is_blank c.if-after-eq32.true)
    at (cut-told _ c.requires.printable _ c.requires.after_start c.requires.inside))

pub returns-then-before-ne32 : goal.returns-then-before-ne32
returns-then-before-ne32 c = c.is_unusual.ensures
    ∙ sym (rw (ne_eqb _ 32 c.if-after-eq32.false, ne_eqb _ 32 c.if-before-ne32.true)
    at (cut-told _ c.requires.printable _ c.requires.after_start c.requires.inside))

pub returns : goal.returns
returns c =
    let told = cut-told _ c.requires.printable _ c.requires.after_start c.requires.inside in
    let blank = ne_eqb _ 32 c.if-after-eq32.false in
    let past = c.class_past_blanks.ensures in
    let follows = c.may_follow_blanks.ensures in
    grind (arith, told, past, ascii_unit, c.if-before-ne32.false, follows, blank)
