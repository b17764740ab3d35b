use Rattle.textwrap_marked_lines.proofs.prefixes.prefix_ends.Goals as goal
use Rattle.textwrap_marks.proofs.Common.{length-drop, SpacedText, arith, Bool, List, drop}
use Rattle.textwrap_marks.proofs.{Common.refl, Common.◌+◌, Common.◌≡◌, Common.ℕ, WordCuts.words_fewer}
use Rattle.textwrap_marked_lines.specs.Prefixes.{bullets_len, comment_len, prefix_ends, quotes_len}
use Rattle.textwrap_marked_lines.specs.Prefixes.{lead_len}
use Rattle.textwrap_marks.specs.declared.options.ReflowOptions.{ReflowOptions}

-- each part is counted behind the parts before it
ends-are : (options : ReflowOptions) (in_block : Bool) (words : List SpacedText)
    (lead more quotes bullets : ℕ) → lead ≡ lead_len words
    → more ≡ comment_len options in_block (drop lead words)
    → quotes ≡ quotes_len (drop (lead + more) words)
    → bullets ≡ bullets_len (drop (lead + more + quotes) words)
    → record {
      lead = lead;
      comment = lead + more;
      margin = lead + more + quotes;
      text = lead + more + quotes + bullets;
    } ≡ prefix_ends options in_block words
ends-are options in_block words lead more quotes bullets l m q b = rw (b, q, m, l) refl

pub overflow_add-text : goal.overflow_add-text
overflow_add-text c = grind (arith, words_fewer, length-drop)
