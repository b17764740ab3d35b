-- What is read of the first word of a line.
use Rattle.textwrap_marked_lines.specs.declared.fences.FenceRun.{FenceRun}
use Rattle.textwrap_marked_lines.specs.{Fences.is_long_run, Prefixes.comment_len, Prefixes.lead_len}
use Rattle.textwrap_marks.proofs.Common.{SpacedText, is_comment_at, arith, false, length, refl, true≢false}
use Rattle.textwrap_marks.proofs.Common.{Bool, List, ◌<◌, ◌==◌, ◌≡◌, ◌∷◌, []}
use Rattle.textwrap_marks.specs.Signs.{first_word}
use Rattle.textwrap_marks.specs.Words.{has_bytes}
use Rattle.textwrap_marks.specs.declared.options.ReflowOptions.{ReflowOptions}
use Rattle.textwrap_text.proofs.Common.{cond}

pub lead_is : (ws : List SpacedText) → 0 < length ws
    → lead_len ws ≡ cond (has_bytes (first_word ws)) 0 1
lead_is [] some = absurd (omega (arith, some))
lead_is (w ∷ ws) some = refl

pub comment_is : (options : ReflowOptions) (in_block : Bool) (ws : List SpacedText) → 0 < length ws
    → comment_len options in_block ws ≡ cond (is_comment_at options in_block (first_word ws)) 1 0
comment_is options in_block [] some = absurd (omega (arith, some))
comment_is options in_block (w ∷ ws) some = refl

pub run_others : (run : FenceRun) (ws : List SpacedText) → (length ws == 1) ≡ false
    → is_long_run run ws ≡ false
run_others run [] is = refl
run_others run (w ∷ []) is = absurd (true≢false is)
run_others run (w ∷ v ∷ ws) is = refl
