use Rattle.textwrap.proofs.indentation.push_dedented.Given as goal
use Rattle.textwrap.proofs.Common.{without_margin, is_blank_line, StartsWith, dedented, flat_map, ℕ}
use Rattle.textwrap.proofs.Common.{texts_of, made_of, chars, false, List, ◌++◌, All, ◌≡◌}

-- the text so far, and what the lines to come make, are the dedented text; of these, each that is
-- not blank begins with the margin
abbrev pub invariant-loop-line : goal.invariant-loop-line
invariant-loop-line g l = record {
  text : (so_far : List ℕ) × g.S.TextSink.holds l.initial.text l.text so_far
      × (so_far ++ flat_map (made_of (without_margin (chars l.margin))) l.line-iterator
      ≡ dedented l.s);
  begins : All (λ line. is_blank_line line ≡ false → StartsWith (chars line) (chars l.margin))
      (texts_of l.line-iterator);
  name : g.S.TextSink.name l.text ≡ g.S.TextSink.name l.initial.text;
}
