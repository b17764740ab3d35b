use Rattle.std.specs.Io.KnownBytes.{Consumes}
use Rattle.textwrap_program.proofs.filling.read_to_end.Given as goal

-- what was read is the input so far
abbrev pub invariant-loop : goal.invariant-loop
invariant-loop g l = Consumes (g.R.Read.remaining l.fn.reader)
    (g.R.Read.remaining l.reader) l.input.items
