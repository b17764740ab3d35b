use Rattle.text_files.specs.Files.{KeepsFiles}
use Rattle.text_filters.proofs.replacing.new_draft.Given as goal

-- the files are as they were, but for drafts that were left over
abbrev pub invariant-loop-number : goal.invariant-loop-number
invariant-loop-number g l = KeepsFiles (g.F.Files.past l.fn.files) (g.F.Files.past l.files)
