use Rattle.std.proofs.Common.{[], arith, length, refl, ◌≡◌}
use Rattle.std.proofs.KnownBytes.{Appends-kept, Appends-nil}
use Rattle.std.proofs.lemmas.{Bool.Decides.nat_tests, List.nil_from_length}
use Rattle.textwrap_program.proofs.WriteLemmas.{WritesPrefix-kept, WritesPrefix-nothing_more}
use Rattle.textwrap_program.proofs.WriteLemmas.{Appends-whole, WrittenSoFar-more}
use Rattle.textwrap_program.proofs.filling.write_whole.Goals as goal

pub loop-rest-init : goal.loop-rest-init
loop-rest-init g c =
    record { written = []; whole = refl; appends = Appends-nil (g.W.Write.contents c.args.writer.now) }

pub loop-rest-preserved : goal.loop-rest-preserved
loop-rest-preserved g c = rw c.split_at.ensures.back
    (WrittenSoFar-more _ _ _ c.loop-rest.rest.now c.args.bytes.now c.in-Ok.count
    c.loop-rest.invariant c.in-Ok.ensures.written)

pub returns-in-Err-clause-prefix : goal.returns-in-Err-clause-prefix
returns-in-Err-clause-prefix g c =
    WritesPrefix-nothing_more _ _ _ c.loop-rest.rest.now c.args.bytes.now c.loop-rest.invariant
    c.in-Err.ensures.nothing

pub returns-in-Err-flush-clause-prefix : goal.returns-in-Err-flush-clause-prefix
returns-in-Err-flush-clause-prefix g c =
    WritesPrefix-kept _ _ _ c.loop-rest.rest.now c.args.bytes.now c.loop-rest.invariant
    c.flush.ensures.bytes

pub returns-in-Ok-flush-clause-ok : goal.returns-in-Ok-flush-clause-ok
returns-in-Ok-flush-clause-ok g c =
    let none : length c.loop-rest.rest.now ≡ 0 = grind (arith, nat_tests) in
    Appends-kept _ _ _ c.args.bytes.now
    (Appends-whole _ _ c.loop-rest.rest.now c.args.bytes.now c.loop-rest.invariant
    (nil_from_length c.loop-rest.rest.now none)) c.flush.ensures.bytes
