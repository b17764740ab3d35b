use Rattle.text_files.proofs.FileLemmas.{Drafts-tried, KeepsFiles-tried}
use Rattle.text_filters.proofs.replacing.new_draft.Goals as goal

pub returns-in_default-2-clause-made : goal.returns-in_default-2-clause-made
returns-in_default-2-clause-made g c =
    Drafts-tried (λ draft. g.F.Files.draft_name draft.node) (g.F.Files.past c.args.files.now)
    (g.F.Files.past c.loop-number.files) (g.F.Files.past c.create_draft.new.self)
    c.create_draft.result c.loop-number.invariant c.create_draft.ensures.made

pub loop-number-preserved : goal.loop-number-preserved
loop-number-preserved g c =
    KeepsFiles-tried (g.F.Files.past c.args.files.now) (g.F.Files.past c.loop-number.files)
    (g.F.Files.past c.create_draft.new.self) (g.F.Files.past c.remove_left_over-removed.new.self)
    c.remove_left_over-removed.result c.loop-number.invariant c.in-Err.ensures.kept
    c.remove_left_over-removed.ensures.removed c.remove_left_over-removed.ensures.kept
