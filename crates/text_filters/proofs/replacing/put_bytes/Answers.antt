use Rattle.std.proofs.Common.{subst, sym}
use Rattle.text_files.specs.Files.{ReplacesPlace}
use Rattle.text_files.proofs.FileLemmas.{KeepsFiles-dropped, ReplacesPlace-put}
use Rattle.text_filters.proofs.replacing.put_bytes.Goals as goal

pub returns-in-Ok-complete-clause-ok : goal.returns-in-Ok-complete-clause-ok
returns-in-Ok-complete-clause-ok g c =
    let draft = c.in-Ok.draft in
    subst (ReplacesPlace (g.F.Files.place c.args.original.now) c.args.bytes.now
    (g.F.Files.past c.args.files.now)) (sym c.sync_folder.ensures.kept)
    (ReplacesPlace-put (g.F.Files.past c.args.files.now) (g.F.Files.past c.new_draft.new.files)
    (g.F.Files.past c.complete.new.files) (g.F.Output.Write.contents draft.stream)
    (g.F.Files.draft_rights draft.node) (g.F.Files.draft_name draft.node)
    (g.F.Files.place c.args.original.now) c.args.bytes.now c.in-Ok.ensures.made
    c.in-Ok.ensures.empty c.in-Ok-complete.ensures.put)

pub returns-clause-kept : goal.returns-clause-kept
returns-clause-kept g c =
    let draft = c.in-Ok.draft in
    KeepsFiles-dropped (g.F.Files.draft_name draft.node)
    (g.F.Files.draft_name c.complete.new.draft.node) (g.F.Files.past c.args.files.now)
    (g.F.Files.past c.new_draft.new.files) (g.F.Files.past c.complete.new.files)
    (g.F.Files.past c.remove-removed.new.self) c.remove-removed.result c.in-Ok.ensures.made
    c.complete.ensures.name c.in-Err-complete.ensures.kept c.remove-removed.ensures.removed
    c.remove-removed.ensures.left
