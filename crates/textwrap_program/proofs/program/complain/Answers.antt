use Rattle.std.proofs.Common.{[], ◌++◌, ◌∷◌}
use Rattle.textwrap_program.{proofs.WriteLemmas.WritesPrefix-result, specs.Program.line_feed}
use Rattle.textwrap_program.proofs.program.complain.Goals as goal

pub returns-clause-line : goal.returns-clause-line
returns-clause-line g c = WritesPrefix-result (g.M.Write.contents c.args.messages.now)
    (g.M.Write.contents c.write_line-written.new.writer) (c.args.line.now ++ line_feed ∷ [])
    c.write_line-written.result c.write_line-written.ensures.ok c.write_line-written.ensures.prefix
