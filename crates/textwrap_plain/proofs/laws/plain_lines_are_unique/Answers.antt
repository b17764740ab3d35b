use Rattle.textwrap_plain.proofs.laws.plain_lines_are_unique.Goals as goal
use Rattle.textwrap_lines.proofs.Text.Groups.{filled_one, text_one}
use Rattle.textwrap_plain.{proofs.Unique.division_one-from, specs.Options.DividesPlainly}
use Rattle.textwrap_plain.specs.Options.{plain_algorithm, plain_settings, points_by, words_by}

pub returns-clause-lines : goal.returns-clause-lines
returns-clause-lines c = λ o.
    text_one (plain_settings o) (DividesPlainly o (plain_settings o))
    (division_one-from (words_by o.word_separator) (points_by o.word_splitter) (plain_settings o)
    (plain_algorithm o))

pub returns-clause-text : goal.returns-clause-text
returns-clause-text c = λ o.
    filled_one (plain_settings o) (DividesPlainly o (plain_settings o))
    (division_one-from (words_by o.word_separator) (points_by o.word_splitter) (plain_settings o)
    (plain_algorithm o))
