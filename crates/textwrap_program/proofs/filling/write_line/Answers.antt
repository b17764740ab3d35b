use Rattle.std.{proofs.lemmas.Result.on_err_weaker, specs.Io.KnownBytes.Appends}
use Rattle.std.proofs.Common.{[], subst, ◌∷◌}
use Rattle.textwrap_program.proofs.WriteLemmas.{OnErr-from, WritesPrefix-after, WritesPrefix-longer}
use Rattle.textwrap_program.specs.{Filling.WritesPrefix, Program.line_feed}
use Rattle.textwrap_program.proofs.filling.write_line.Goals as goal

pub returns-in_err-write_to_end-clause-prefix : goal.returns-in_err-write_to_end-clause-prefix
returns-in_err-write_to_end-clause-prefix g c =
    let old = g.W.Write.contents c.args.writer.now in
    let new = g.W.Write.contents c.write_to_end.new.writer in
    OnErr-from c.from_residual.result
    (WritesPrefix-longer old new c.args.line.now (line_feed ∷ [])
    (subst (WritesPrefix old new) c.as_bytes.ensures.value c.in_err-write_to_end.ensures.prefix))

pub returns-clause-prefix : goal.returns-clause-prefix
returns-clause-prefix g c =
    let old = g.W.Write.contents c.args.writer.now in
    let mid = g.W.Write.contents c.write_to_end.new.writer in
    let new = g.W.Write.contents c.write_to_end-2.new.writer in
    on_err_weaker c.write_to_end-2.result
    (WritesPrefix-after old mid new c.args.line.now (line_feed ∷ [])
    (subst (Appends old mid) c.as_bytes.ensures.value c.in_ok-write_to_end.ensures.ok))
    c.write_to_end-2.ensures.prefix
