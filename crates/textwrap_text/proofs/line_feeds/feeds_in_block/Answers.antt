use Rattle.textwrap_text.proofs.{Common.ℕ, TextLines.is_feed}
use Rattle.textwrap_text.proofs.Common.{common_steps, eqb-false, eqb-true, length, List, prefix_len}
use Rattle.textwrap_text.proofs.Common.{[], ap, arith, eqb, map, not, rules, sym, w8, ◌<◌, ◌∙◌, ◌∷◌}
use Rattle.std.proofs.lemmas.Simd.{none_from_empty_mask, run_in_chunk_fails, run_in_chunk_stops}
use Rattle.std.proofs.lemmas.Simd.{bitmask_splat, length-chunk, trailing_mask_l}
use lib.Count.{count_trailing_zeros}
use lib.Lanes.{chunk, mask_l}
use Rattle.textwrap_text.proofs.line_feeds.feeds_in_block.Goals as goal

some-lane : (bytes : List ℕ) → 0 < mask_l (map is_feed bytes)
    → prefix_len (λ b. not (is_feed b)) bytes < length bytes
some-lane [] some = absurd (omega arith)
some-lane (b ∷ bytes) some = grind (arith, common_steps, some-lane bytes)

pub returns-clause-none : goal.returns-clause-none
returns-clause-none c empty k low high =
    let text = c.args.text.now in
    let at = c.args.at in
    let long = length-chunk at 16 text c.requires in
    let feeds = bitmask_splat w8 eqb (chunk at 16 text) 16 10 long (omega arith) in
    eqb-false _ 10
    (none_from_empty_mask is_feed text at 16 0 c.requires (sym feeds ∙ empty) k low high)

pub returns-clause-first : goal.returns-clause-first
returns-clause-first c some =
    let text = c.args.text.now in
    let at = c.args.at in
    let block = chunk at 16 text in
    let long = length-chunk at 16 text c.requires in
    let feeds = bitmask_splat w8 eqb block 16 10 long (omega arith) in
    let set : 0 < mask_l (map is_feed block) = omega (arith, feeds, some) in
    let first = ap (count_trailing_zeros 64) feeds
    ∙ trailing_mask_l is_feed 64 block (omega arith) set in
    let fails = run_in_chunk_fails is_feed text at 16 _ 0 c.requires first in
    let stops = run_in_chunk_stops is_feed text at 16 _ 0 c.requires first in
    let within = some-lane block set in search (rules, arith, eqb-false, eqb-true)
