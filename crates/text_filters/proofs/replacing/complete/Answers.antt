use Rattle.std.{proofs.Common.{◌∙◌, subst, sym, Some}, specs.Io.KnownBytes.Appends}
use Rattle.text_files.proofs.FileLemmas.{PutsEmpty-put}
use Rattle.text_files.specs.Files.{HasRights, IsGivenRights, PutsEmpty, FolderSteps}
use Rattle.text_filters.proofs.replacing.complete.Goals as goal

pub returns-in-Ok-clause-put : goal.returns-in-Ok-clause-put
returns-in-Ok-clause-put g c =
    let files = g.F.Files in
    let contents = g.F.Output.Write.contents in
    let draft = c.args.draft.now in
    let whole = c.sync.new.draft in
    let place = files.place c.args.original.now in
    let rights = c.in_ok-rights.rights in
    let kept = c.sync.ensures.kept ∙ c.give_rights.ensures.kept in
    let empty = contents draft.stream in
    let own = files.draft_rights draft.node in
    let new = files.past c.rename.new.self in
    subst (λ past. FolderSteps (PutsEmpty empty own (files.draft_name draft.node) place c.args.bytes.now) past new) kept
    (subst (λ name. FolderSteps (PutsEmpty empty own name place c.args.bytes.now) (files.past c.sync.new.self) new)
    (c.sync.ensures.name ∙ c.give_rights.ensures.name)
    (PutsEmpty-put (files.past c.sync.new.self) new empty (contents whole.stream) own
    (files.draft_rights whole.node) rights (files.draft_name whole.node) place c.args.bytes.now
    (subst (λ held. Appends empty held c.args.bytes.now)
    (sym (c.sync.ensures.contents ∙ c.give_rights.ensures.contents)) c.in_default.ensures.ok)
    (subst (IsGivenRights rights own) (sym c.sync.ensures.rights) c.in_default-give_rights.ensures.given)
    (subst (λ past. HasRights past place (Some rights)) (sym kept) c.in_ok-rights.ensures.rights)
    (c.in-Ok.ensures.put c.in_default-sync.ensures.synced)))
