use Rattle.textwrap_lines.proofs.Common.{length-slice, NoCutBetween, as_splitter, is_cut_by, length}
use Rattle.textwrap_lines.proofs.Common.{limit_at, rules, arith, false, Bool, true, sym, ◌+◌, ◌-◌}
use Rattle.textwrap_lines.proofs.Common.{◌<◌, ◌^◌, ◌∙◌, ◌≡◌, ◌≤◌, ℕ}
use Rattle.textwrap_lines.proofs.printable.line_end.Goals as goal
use Rattle.textwrap_text.proofs.Common.{ne_eqb}
use Rattle.textwrap_lines.proofs.printable.line_end.Goals.{After-last_cut-cut}
use Rattle.textwrap_layout.proofs.Paragraph.LeftOff.{cut_by-others}
use Rattle.textwrap_lines.proofs.PrintableTexts.Lines.{blanks-keep, line-broken, line-whole}
use Rattle.textwrap_lines.proofs.PrintableTexts.Lines.{line-all, line-cut, none-past, none-then}

above : (breaks : Bool) (width : ℕ) → width < 2 ^ 64 → width ≤ limit_at breaks width
above true width fits = omega arith
above false width fits = omega (arith, fits)

pub returns-then-text-at-clause-line : goal.returns-then-text-at-clause-line
returns-then-text-at-clause-line g c =
    let text = c.args.text.now in
    let before = cut_by-others _ (as_splitter c.args.splitter) text
    (g.met.C.PrintableCuts.before_others c.args.cuts.now text c.requires.printable) in
    line-all _ _ c.args.width text c.requires.printable before c.args.at c.requires.inside
    (omega (arith, length-slice text c.args.at (length text) (omega arith), c.if-text-at.true))

pub returns-then-past-text-clause-line : goal.returns-then-past-text-clause-line
returns-then-past-text-clause-line g c =
    let text = c.args.text.now in
    let before = cut_by-others _ (as_splitter c.args.splitter) text
    (g.met.C.PrintableCuts.before_others c.args.cuts.now text c.requires.printable) in
    let at = c.args.at in
    let width = c.args.width in
    let past = c.blanks_end-past.result in
    let found = c.blanks_end-past.ensures in
    let keeps = blanks-keep text at width past found.within found.blanks in
    search (
      rules,
      arith,
      line-all,
      line-cut,
      above,
      ne_eqb,
      c.then-past-text.branch,
      c.requires.printable,
      c.requires.inside,
      c.requires.width,
    )

-- the text goes on behind the blanks after the width
inside : (g : _) (c : After-last_cut-cut g) → c.blanks_end-past.result < length c.args.text.now
inside g c = omega (arith, c.blanks_end-past.ensures.within, c.if-past-text.false)

-- and is not cut there, nor after the last cut before
uncut : (g : _) (c : After-last_cut-cut g) → NoCutBetween
    (is_cut_by (g.C.PrintableCuts.cuts c.args.cuts.now c.args.text.now)
    (as_splitter c.args.splitter)
    c.args.text.now) c.last_cut-cut.result c.blanks_end-past.result
uncut g c =
    let text = c.args.text.now in
    none-past _ text (cut_by-others _ (as_splitter c.args.splitter) text
    (g.met.C.PrintableCuts.before_others c.args.cuts.now text c.requires.printable)) _ _ _
    c.last_cut-cut.ensures.last (inside g c) c.blanks_end-past.ensures.blanks
    (sym c.is_cut_at.ensures ∙ c.if-is_cut_at.false)

pub returns-then-cut-at-clause-line : goal.returns-then-cut-at-clause-line
returns-then-cut-at-clause-line g c =
    let here = (goal.at.returns-then-cut-at-clause-line g c).After-last_cut-cut in
    let text = c.args.text.now in
    let found = c.blanks_end-past.ensures in
    let last = c.last_cut-cut.ensures in
    let len = length-slice text c.args.at c.last_cut-cut.result
    (omega (arith, last.within, found.after, inside g here)) in
    line-cut _ _ c.args.width text c.requires.printable
    (cut_by-others _ (as_splitter c.args.splitter) text
    (g.met.C.PrintableCuts.before_others c.args.cuts.now text c.requires.printable))
    c.args.at c.last_cut-cut.result c.blanks_end-past.result c.requires.width
    (above c.args.breaks c.args.width c.ranges.width.fits) c.if-cut-at.true
    (omega (arith, last.within, found.after)) found.after (inside g here)
    (last.cut c.if-cut-at.true) (uncut g here) (ne_eqb _ 32 (found.stops (inside g here)))
    (omega (arith, len, last.within))

pub returns-then-breaks-clause-line : goal.returns-then-breaks-clause-line
returns-then-breaks-clause-line g c =
    let here = (goal.at.returns-then-breaks-clause-line g c).After-last_cut-cut in
    let found = c.blanks_end-past.ensures in
    let start : c.last_cut-cut.result ≡ c.args.at =
    omega (arith, c.if-cut-at.false, c.last_cut-cut.ensures.from) in
    rw c.if-breaks.true (line-broken _ c.args.width c.args.text.now c.requires.printable c.args.at
    c.blanks_end-past.result c.requires.width found.after (inside g here)
    (rw start at (uncut g here)) (ne_eqb _ 32 (found.stops (inside g here))))

pub returns-clause-line : goal.returns-clause-line
returns-clause-line g c =
    let here = (goal.at.returns-clause-line g c).After-last_cut-cut in
    let text = c.args.text.now in
    let at = c.args.at in
    let next = c.next_cut.ensures in
    let start : c.last_cut-cut.result ≡ at =
    omega (arith, c.if-cut-at.false, c.last_cut-cut.ensures.from) in
    let same : c.blanks_end-past.result + 1 - 1 ≡ c.blanks_end-past.result = omega arith in
    let short : length text ≤ limit_at c.args.breaks c.args.width =
    rw c.if-breaks.false (omega arith) in
    line-whole _ _ c.args.width text c.requires.printable
    (cut_by-others _ (as_splitter c.args.splitter) text
    (g.met.C.PrintableCuts.before_others c.args.cuts.now text c.requires.printable))
    at c.next_cut.result (omega (arith, next.from, c.blanks_end-past.ensures.after)) next.within
    short
    (none-then _ at c.blanks_end-past.result (c.next_cut.result - 1) (rw start at (uncut g here))
    (rw same at next.first)) next.cut
