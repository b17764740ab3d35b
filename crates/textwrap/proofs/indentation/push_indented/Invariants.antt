use Rattle.textwrap.proofs.indentation.push_indented.Given as goal
use Rattle.textwrap.proofs.Common.{flat_map, indented, List, ◌++◌, map, ◌≡◌, ℕ}
use Rattle.textwrap.specs.Indentation.{indented_part}
use Rattle.textwrap_text.specs.TextLines.{with_ending}

-- the text so far, and the lines to come, each indented, are the indented text
abbrev pub invariant-loop-line : goal.invariant-loop-line
invariant-loop-line g l = record {
  text : (so_far : List ℕ) × g.S.TextSink.holds l.initial.text l.text so_far
      × (so_far ++ flat_map (indented_part l.prefix) (map with_ending l.line-iterator)
      ≡ indented l.prefix l.s);
  name : g.S.TextSink.name l.text ≡ g.S.TextSink.name l.initial.text;
}
