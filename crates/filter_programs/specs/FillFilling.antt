-- How the program fills a text.
use Rattle.std.specs.Prelude.{true}
use Rattle.text_filters.specs.Filter.{Work}
use Rattle.textwrap_layout.specs.Filling.{IsFilledAt}
use Rattle.textwrap_program.specs.Arguments.{asked_algorithm}
use Rattle.filter_programs.specs.declared.fill.filling.Filling.{Filling}

-- the program as a filter: the paragraphs of each text are filled
abbrev pub filling : Filling → Work
filling how = record {
  Makes = IsFilledAt how.width (asked_algorithm how.algorithm);
  applies = λ text. true;
}
