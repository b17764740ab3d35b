-- Lines, read one after another.
use Rattle.textwrap_marks.proofs.Common.{length, arith, Bool, List}
use Rattle.textwrap_text.proofs.Common.{lt-ltb, nat_lt, None, Some}
use Rattle.textwrap_marked_lines.specs.Lines.{passed}
use Rattle.std.proofs.lemmas.List.Splits.{length-slice_split}
use Rattle.textwrap_marked_lines.specs.Lines.{without_returns, read_lines}
use Rattle.textwrap_marks.specs.declared.options.ReflowOptions.{ReflowOptions}
use Rattle.textwrap_marked_lines.specs.Lines.{line_as_read, StateText, LineText, entered}
use Rattle.std.specs.Prelude.{is_some}
use Rattle.textwrap_text.proofs.Common.{Option}
use Rattle.textwrap_marks.proofs.Common.{ℕ}
use Rattle.textwrap_marks.proofs.Common.{refl, ◌==◌, sym, ◌∷◌, ◌≡◌}
use Rattle.textwrap_marks.specs.Words.{parts_behind_mark}
use Rattle.textwrap_text.proofs.Common.{Bor}

-- a line feed follows just where more parts do
pub fed-is : (rest : Option (Bor (List ℕ))) → is_some rest ≡ nat_lt 0 (length (parts_behind_mark 10 rest))
fed-is None = refl
fed-is (Some rest) =
    sym (lt-ltb 0 (length (parts_behind_mark 10 (Some rest)))
    (omega (arith, length-slice_split (λ c. c == 10) rest.now)))

module _ (options : ReflowOptions) where
  pub reads-line : (state at behind : StateText) (raw : List ℕ) (parts : List (List ℕ)) (fed : Bool)
      (line : LineText) → at ≡ entered state (without_returns raw) → fed ≡ nat_lt 0 (length parts)
      → line ≡ line_as_read options at raw fed → behind ≡ passed at line
      → read_lines options state (raw ∷ parts) ≡ line ∷ read_lines options behind parts
  reads-line state at behind raw parts fed line a f l b = rw (b, l, f, a) refl
