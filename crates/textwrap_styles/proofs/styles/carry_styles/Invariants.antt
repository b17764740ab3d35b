use Rattle.textwrap_styles.proofs.styles.carry_styles.Given as goal
use Rattle.textwrap_layout.specs.Paragraph.{line_view}
use Rattle.textwrap_styles.{proofs.Common.{carried_lines, IsKeptAfter}, specs.Styles.texts_of}
use Rattle.textwrap_text.proofs.Common.{◌++◌, [], drop, List, map, shadow, Utf8, ℕ, ◌≡◌}

-- the lines so far, and those of what is left after some sequences, are all lines
abbrev pub invariant-loop-line : goal.invariant-loop-line
invariant-loop-line g l = record {
  carries : (before : List (List ℕ)) × IsKeptAfter before l.open × (map line_view l.carried.items
      ++ carried_lines l.indent l.options.subsequent_indent.now before (texts_of (drop l.line-index l.lines))
      ≡ carried_lines l.options.initial_indent.now l.options.subsequent_indent.now [] (texts_of l.lines));
  utf8 : shadow (Utf8 l.indent);
}
