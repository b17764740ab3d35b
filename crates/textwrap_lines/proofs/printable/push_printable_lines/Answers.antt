use Rattle.std.proofs.lemmas.Grind.{common_steps}
use Rattle.textwrap_lines.proofs.Common.{frame_settings, HasTaken-start, HasTaken-next, IsFirstLine}
use Rattle.textwrap_lines.proofs.Common.{as_splitter, break_limit, later_width, slice_range, length}
use Rattle.textwrap_lines.proofs.Common.{length-slice, refl, line_slice, is_cut_by, rules, arith, ◌≡◌, ◌≤◌}
use Rattle.textwrap_lines.proofs.printable.push_printable_lines.Goals as goal
use Rattle.textwrap_lines.proofs.printable.push_printable_lines.Goals.{else-goes_on, then-goes_on}
use Rattle.textwrap_lines.proofs.PrintableTexts.Lines.{lines-step}

pub loop-at-init : goal.loop-at-init
loop-at-init g c =
    search (rules, arith, HasTaken-start, c.requires.start, c.args.frame.now.is_later)

pub loop-at-preserved : goal.loop-at-preserved
loop-at-preserved g c =
    let settings = frame_settings c.args.frame.now in
    let text = c.args.paragraph.now in
    let test = is_cut_by (g.C.PrintableCuts.cuts c.args.cuts.now text) (as_splitter c.args.splitter)
    text in
    let limit = break_limit settings in
    let width = later_width settings in
    let at = c.loop-at.at in
    let next = c.line_end-next.result.0 in
    let goes_on = c.line_end-next.result.1 in
    let so_far = c.loop-at.invariant in
    let bytes = c.as_bytes-text.ensures.value in
    let within : next ≤ length text = rw bytes at c.line_end-next.ensures.within in
    let first : IsFirstLine test limit width text at next goes_on =
    rw (bytes, c.args.frame.now.later) at c.line_end-next.ensures.line in
    let word_end = c.if-goes_on.bounds in
    let ends : (slice_range text at word_end ≡ line_slice text at next goes_on)
    × (at ≤ word_end) × (word_end ≤ next) =
    elim c.if-goes_on.branch [
      | then-goes_on w ↦ rw (w.bounds-is, w.if-goes_on.true) (refl, omega (arith, c.line_end-next.ensures.some), omega arith)
      | else-goes_on w ↦
          let value = rw bytes at w.trimmed_len.ensures.value in
          let inside = rw bytes at w.trimmed_len.ensures.within in
          let len = length-slice text at next (omega (arith, within)) in
          rw (w.bounds-is, w.if-goes_on.false) (
            grind (arith, common_steps, value, inside, len),
            omega arith,
            omega (arith, inside, len, c.line_end-next.ensures.some),
          )
    ] in
    let (slice, from, before) = ends in
    let (is_later, indented, taken) = so_far.taken in
    let step = lines-step settings text test limit width at next word_end goes_on is_later
    c.requires.printable from before within slice first in
    search (rules, arith, HasTaken-next)
