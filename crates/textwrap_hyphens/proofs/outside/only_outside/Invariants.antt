use Rattle.std.specs.Prelude.{chars}
use Rattle.textwrap_hyphens.specs.Outside.{is_outside}
use Rattle.textwrap_text.proofs.Common.{IsCharBoundary, drop, filter, fold, next_of, take, ◌++◌, ◌≡◌}
use Rattle.textwrap_text.specs.declared.escapes.State.TheVariants.{Text}
use Rattle.textwrap_words.specs.Cuts.{AreLaterCuts}
use Rattle.textwrap_hyphens.proofs.outside.only_outside.Given as goal

-- those so far, and those of the points to come, are all; the word is read up to the last point
abbrev pub invariant-loop-point : goal.invariant-loop-point
invariant-loop-point g l = record {
  outside : l.outside.items ++ filter (is_outside l.word) (drop l.point-index l.points)
      ≡ filter (is_outside l.word) l.points;
  state : l.state ≡ fold next_of Text (chars (take l.read l.word));
  cut : IsCharBoundary l.word l.read;
  left : AreLaterCuts l.read l.word (drop l.point-index l.points);
}
