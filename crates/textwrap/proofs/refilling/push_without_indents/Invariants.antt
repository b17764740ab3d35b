use Rattle.textwrap.proofs.refilling.push_without_indents.Given as goal
use Rattle.textwrap.proofs.Common.{detected_ending, detected_among, joined_text, StartsWith, length}
use Rattle.textwrap.proofs.Common.{List, ◌++◌, All, map, ◌∷◌, ◌≡◌, ℕ}
use Rattle.textwrap.proofs.Text.Unfilling.{added_lines}

-- the text so far, and what the lines to come add, are the joined text; these lines begin with
-- their indent; and the ending so far stands for those that came
abbrev pub invariant-loop-line : goal.invariant-loop-line
invariant-loop-line g l = record {
  joined : (so_far : List ℕ) × g.S.TextSink.holds l.fn.joined l.joined so_far
      × (so_far ++ added_lines (length l.subsequent_indent) l.line-iterator
      ≡ joined_text l.text);
  name : g.S.TextSink.name l.joined ≡ g.S.TextSink.name l.fn.joined;
  begins : All (λ e. StartsWith e.line l.subsequent_indent) l.line-iterator;
  detected : detected_among (l.detected ∷ map (λ e. e.ending) l.line-iterator)
      ≡ detected_ending l.text;
}
