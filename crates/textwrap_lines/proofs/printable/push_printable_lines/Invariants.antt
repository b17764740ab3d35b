use Rattle.textwrap_lines.proofs.printable.push_printable_lines.Given as goal
use Rattle.textwrap_lines.proofs.Common.{as_splitter, break_limit, frame_settings, later_width, ◌-◌}
use Rattle.textwrap_lines.proofs.Common.{HasTaken, indent_of, is_cut_by, pieces_from, Settings, ◌≡◌}
use Rattle.textwrap_lines.proofs.Common.{Bool, CutLine, length, List, ℕ, ◌≤◌}
use Rattle.textwrap_lines.proofs.PrintableTexts.Lines.{lines_at}

-- the lines of what follows a place
abbrev pub lines_after : Settings → (ℕ → Bool) → List ℕ → ℕ → Bool → List CutLine
lines_after settings test text at is_later =
    lines_at settings text at (later_width settings) is_later
    (pieces_from test (break_limit settings) text at)

-- the lines of what comes before the place were taken, and those after it are left
abbrev pub invariant-loop-at : goal.invariant-loop-at
invariant-loop-at g l = record {
  within : l.at ≤ length l.paragraph;
  taken : (is_later : Bool) × (l.indent ≡ indent_of (frame_settings l.frame) is_later)
      × HasTaken g.S.LineSink.holds (lines_after (frame_settings l.frame)
      (is_cut_by (g.C.PrintableCuts.cuts l.cuts l.paragraph) (as_splitter l.splitter) l.paragraph)
      l.paragraph l.start l.frame.is_later) l.initial.lines l.lines (lines_after (frame_settings l.frame)
      (is_cut_by (g.C.PrintableCuts.cuts l.cuts l.paragraph) (as_splitter l.splitter) l.paragraph)
      l.paragraph l.at is_later);
  name : g.S.LineSink.name l.lines ≡ g.S.LineSink.name l.initial.lines;
}

abbrev pub decreases-loop-at : goal.decreases-loop-at
decreases-loop-at g l = length l.paragraph - l.at
