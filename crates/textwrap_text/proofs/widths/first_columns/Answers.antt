use Rattle.textwrap_text.proofs.Common.{arith, drop, rules, Text}
use Rattle.textwrap_text.proofs.Units.Reading.{IsMeasured, measured-printable}
use Rattle.textwrap_text.proofs.widths.first_columns.Goals.{Then-printable-gt0}
use Rattle.textwrap_text.proofs.widths.first_columns.Goals as goal

-- the printable ASCII at the beginning
read : (c : Then-printable-gt0)
    → IsMeasured c.args.text.now c.printable_len-printable.result
    (drop c.printable_len-printable.result c.args.text.now) Text c.printable_len-printable.result
read c = search (rules, arith, measured-printable)

pub returns-then-printable-gt0-clause-boundary : goal.returns-then-printable-gt0-clause-boundary
returns-then-printable-gt0-clause-boundary c = (read c).read.boundary

pub returns-then-printable-gt0-clause-columns : goal.returns-then-printable-gt0-clause-columns
returns-then-printable-gt0-clause-columns c = (read c).columns
