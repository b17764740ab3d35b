use Rattle.textwrap_more_calls.specs.Pieces.{AreOffsets, IsNextOffset}
use Rattle.textwrap_text.proofs.Common.{List, ℕ, [], ◌∷◌, All, All-cons, All-nil, All-from_get_or}
use Rattle.textwrap_text.proofs.Common.{arith, IsCharBoundary, stripped, IsStrictlyIncreasing}
use Rattle.textwrap_words.proofs.Word.Cuts.{next-at, next-increasing}
use Rattle.textwrap_more_calls.proofs.pieces.words_at.Goals as goal

increasing : (text offsets : List ℕ) → AreOffsets text offsets → IsStrictlyIncreasing offsets
increasing text [] are = λ k within. absurd (omega arith)
increasing text (offset ∷ offsets) (_, later) =
    next-increasing (IsNextOffset text) offsets offset (λ before after next. next.0) later

boundaries : (text offsets : List ℕ) → AreOffsets text offsets → All (IsCharBoundary text) offsets
boundaries text [] are = All-nil (IsCharBoundary text)
boundaries text (offset ∷ offsets) (first, later) =
    All-cons (IsCharBoundary text) offset offsets first
    (All-from_get_or (IsCharBoundary text) offsets 0
    (λ k within. (next-at (IsNextOffset text) offsets offset k later within).1))

pub find_words_at-requires-clause-increasing : goal.find_words_at-requires-clause-increasing
find_words_at-requires-clause-increasing c =
    increasing (stripped c.args.line.now) c.args.offsets.now c.requires

pub find_words_at-requires-clause-boundaries : goal.find_words_at-requires-clause-boundaries
find_words_at-requires-clause-boundaries c =
    boundaries (stripped c.args.line.now) c.args.offsets.now c.requires
