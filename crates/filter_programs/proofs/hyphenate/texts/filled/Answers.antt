use Rattle.filter_programs.specs.HyphenateTexts.{algorithm_by, separator_by}
use Rattle.textwrap.proofs.Common.{string_bytes, subst, IsFilled, Settings, Algorithm}
use Rattle.textwrap_plain.specs.Options.{DividesFrom, plain_algorithm, plain_settings, points_by}
use Rattle.textwrap_plain.specs.{Options.words_by, declared.options.PlainSeparator.PlainSeparator}
use Rattle.textwrap_plain.specs.declared.options.PlainSplitter.{PlainSplitter}
use Rattle.textwrap_plain.specs.declared.options.PlainSplitter.TheVariants.{Dictionary}
use Rattle.filter_programs.proofs.hyphenate.texts.filled.Goals as goal

pub returns-in-Ok : goal.returns-in-Ok
returns-in-Ok c =
    let o = c.filling_options.result in
    let how = c.args.how in
    let options = c.filling_options.ensures in
    let Filled : Settings → PlainSeparator → PlainSplitter → Algorithm → Type 0 = λ s separator splitter algorithm.
    IsFilled s (DividesFrom (words_by separator) (points_by splitter) algorithm s) c.args.text.now
    (string_bytes c.in-Ok.filled) in
    subst (λ s. Filled s (separator_by how.breaks) (Dictionary c.args.patterns.now)
    (algorithm_by how.least_cost)) options.settings
    (subst (Filled (plain_settings o) (separator_by how.breaks)
    (Dictionary c.args.patterns.now)) options.algorithm
    (subst (λ p. Filled (plain_settings o) (separator_by how.breaks) p (plain_algorithm o)) options.splitter
    (subst (λ w. Filled (plain_settings o) w o.word_splitter (plain_algorithm o)) options.separator
    c.in-Ok.ensures.filled)))
