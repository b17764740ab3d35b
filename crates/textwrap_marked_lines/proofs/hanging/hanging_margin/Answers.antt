use Rattle.textwrap_marked_lines.proofs.hanging.hanging_margin.Goals as goal
use Rattle.textwrap_marked_lines.specs.Hanging.{hanging_comments}
use Rattle.textwrap_marks.specs.Words.{spaced_words}
use Rattle.textwrap_text.proofs.Common.{string_bytes, slice_range}
use Rattle.textwrap_marks.proofs.Common.{take}
use Rattle.textwrap_marks.specs.Words.{spaced_text}
use Rattle.textwrap_marks.proofs.Common.{◌++◌, ◌∙◌, ◌≡◌, ap}
use Rattle.textwrap_marks.proofs.WordCuts.{text-of}

pub returns : goal.returns
returns c =
    let words = spaced_words c.args.line.now in
    let ends = c.args.ends.now in
    let lead : string_bytes c.in_ok-text.text ≡ spaced_text (take ends.lead words) =
    c.in_ok-text.ensures.ok ∙ text-of _ _ c.split_words.ensures.front in
    let quotes = text-of c.words_between-2.result.now (slice_range words ends.comment ends.margin)
    c.words_between-2.ensures in
    c.in_ok-push_str.ensures.bytes
    ∙ ap (λ t. t ++ c.words_between-2.result.now) c.in_ok-push_hanging_comments.ensures
    ∙ (λ i. (lead i ++ hanging_comments c.args.bare (c.words_between.ensures i)) ++ quotes i)
