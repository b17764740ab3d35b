use Rattle.textwrap_text.proofs.line_feeds.split_at_line_feed.Goals as goal
use Rattle.textwrap_text.proofs.Common.{IsCharBoundary-after_ascii, All-from_get_or, common_steps}
use Rattle.textwrap_text.proofs.Common.{get_or-take, split_at, arith, subst, All, ◌≢◌}
use Rattle.textwrap_text.proofs.Lists.Parts.{from_start}

pub returns-then-at-text : goal.returns-then-at-text
returns-then-at-text c =
    subst (All (λ b. b ≢ 10)) c.as_bytes.ensures.value (All-from_get_or (λ b. b ≢ 10)
    c.as_bytes.result.now 0 (λ k l. c.line_feed_at-at.ensures.lacks k (omega arith)))

pub range_from-requires : goal.range_from-requires
range_from-requires c some = grind (arith, common_steps, IsCharBoundary-after_ascii)

pub returns : goal.returns
returns c =
    let lacks = c.line_feed_at-at.ensures.lacks in (
      All-from_get_or (λ b. b ≢ 10) c.range.result.now 0
          (λ k l. grind (arith, common_steps, get_or-take, from_start, lacks k)),
      grind (arith, common_steps, split_at, from_start),
    )
