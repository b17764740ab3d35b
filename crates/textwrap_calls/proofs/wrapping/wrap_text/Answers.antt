use Rattle.textwrap_calls.proofs.Common.{[], arith, length, refl, rules, ◌<◌, ◌^◌, ArePlacedLines}
use Rattle.textwrap_calls.proofs.{Common.options_settings, Lengths.Bounds.lines-bounded}
use Rattle.textwrap_calls.proofs.{PlaceLemmas.placed-shown, ReadOptions.as-read}
use Rattle.textwrap_calls.proofs.RoomLemmas.{WritesLines-reported, WritesReported-counts}
use Rattle.textwrap_calls.proofs.RoomLemmas.{ShowLines-length}
use Rattle.textwrap_calls.proofs.wrapping.wrap_text.Goals as goal

pub returns-in-Ok-place_into-clause-wrapped : goal.returns-in-Ok-place_into-clause-wrapped
returns-in-Ok-place_into-clause-wrapped c =
    let given = c.args.options.now in
    let text = c.args.text.now in
    let (lines, places, are, writes) = c.in-Ok-place_into.ensures.lines in
    let here = as-read given c.in-Ok.options c.in-Ok.ensures.read
    (λ s Divides. ArePlacedLines s (Divides s) text lines places) are in
    let shown = placed-shown given text lines places c.utf8.text here in
    let few = (lines-bounded given (options_settings given) (length text) text lines c.utf8.text refl
    here.are).count in
    let same = ShowLines-length _ _ lines places (shown []) in
    let fits : length places < 2 ^ 64 = omega (arith, few, same) in
    WritesLines-reported lines here refl shown c.report_counts.ensures.statuses
    (WritesReported-counts fits refl writes c.report_counts.ensures (search rules) (search rules)
    (omega arith))
