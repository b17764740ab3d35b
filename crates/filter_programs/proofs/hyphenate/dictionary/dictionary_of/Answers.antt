use Rattle.filter_programs.proofs.hyphenate.dictionary.dictionary_of.Goals as goal

pub returns-in-Err-Line : goal.returns-in-Err-Line
returns-in-Err-Line c = (
  λ utf8. let is = c.in-Err-Line.ensures.text utf8 in rw c.in-Err-Line.field-0-is at is,
  λ other. let is = c.in-Err-Line.ensures.charset other in rw c.in-Err-Line.field-0-is at is,
)
