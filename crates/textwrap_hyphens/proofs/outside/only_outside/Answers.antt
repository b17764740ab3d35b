use Rattle.std.specs.Prelude.{chars}
use Rattle.textwrap_hyphens.proofs.OutsideHyphens.{outside-more, state-on}
use Rattle.textwrap_hyphens.specs.Outside.{is_outside, is_text}
use Rattle.textwrap_text.proofs.Common.{IsCharBoundary-start, ap, arith}
use Rattle.textwrap_text.proofs.Common.{chars-nil, drop, drop_more, filter, fold, get_or, next_of, rules, subst}
use Rattle.textwrap_text.proofs.Common.{sym, take, ◌+◌, ◌++◌, ◌∙◌, ◌∷◌, ◌≡◌}
use Rattle.textwrap_text.specs.declared.escapes.State.TheVariants.{Text}
use Rattle.textwrap_words.specs.Cuts.{AreLaterCuts}
use Rattle.textwrap_hyphens.proofs.outside.only_outside.Goals.{Joined-matches-2}
use Rattle.textwrap_hyphens.proofs.outside.only_outside.Goals.{else-matches, in-Text, in_default}
use Rattle.textwrap_hyphens.proofs.outside.only_outside.Goals.{then-matches+in_ok-push}
use Rattle.textwrap_hyphens.proofs.outside.only_outside.Goals as goal

pub loop-point-init : goal.loop-point-init
loop-point-init g c = record {
  outside = ap (λ l. l ++ filter (is_outside c.args.word.now) c.args.points.now) c.new-outside.ensures.items;
  state = sym (ap (fold next_of Text) chars-nil);
  cut = IsCharBoundary-start c.args.word.now c.utf8.word;
  left = c.requires;
}

-- the points to come from this one on
ahead : (g : _) (c : Joined-matches-2 g) → drop c.loop-point.point-index c.args.points.now
    ≡ get_or c.args.points.now c.loop-point.point-index 0
    ∷ drop (c.loop-point.point-index + 1) c.args.points.now
ahead g c = drop_more c.args.points.now c.loop-point.point-index 0 c.loop-point-test.true

left : (g : _) (c : Joined-matches-2 g) → AreLaterCuts c.loop-point.read c.args.word.now
    (get_or c.args.points.now c.loop-point.point-index 0
    ∷ drop (c.loop-point.point-index + 1) c.args.points.now)
left g c =
    subst (AreLaterCuts c.loop-point.read c.args.word.now) (ahead g c) c.loop-point.invariant.left

state : (g : _) (c : Joined-matches-2 g) → c.state_behind-state.result ≡ fold next_of Text
    (chars (take (get_or c.args.points.now c.loop-point.point-index 0) c.args.word.now))
state g c =
    let ((after, inside, cut), rest) = left g c in
    let word = c.args.word.now in
    let point = get_or c.args.points.now c.loop-point.point-index 0 in
    c.state_behind-state.ensures
    ∙ ap (λ s. fold next_of s (chars c.range.result.now)) c.loop-point.invariant.state
    ∙ ap (λ t. fold next_of (fold next_of Text (chars (take c.loop-point.read word))) (chars t))
    c.range.ensures.value
    ∙ state-on word c.loop-point.read point c.utf8.word (omega (arith, after)) c.loop-point.invariant.cut

matched : (g : _) (c : Joined-matches-2 g) → c.match-matches.matches ≡ is_text c.state_behind-state.result
matched g c = elim c.match-matches.branch [
  | in-Text w ↦ grind arith
  | in_default w ↦ search (rules, w.in_default)
]

pub loop-point-preserved : goal.loop-point-preserved
loop-point-preserved g c =
    let word = c.args.word.now in
    let points = c.args.points.now in
    let point = get_or points c.loop-point.point-index 0 in
    let ((after, inside, cut), rest) = left g c in
    record {
      outside = outside-more word (drop (c.loop-point.point-index + 1) points) c.loop-point.outside.items
          c.if-matches.outside.items (filter (is_outside word) points) point c.match-matches.matches
          (matched g c ∙ ap is_text (state g c)) (elim c.if-matches.branch [
            | then-matches+in_ok-push w ↦ grind arith
            | else-matches w ↦ grind arith
          ])
          (ap (λ l. c.loop-point.outside.items ++ filter (is_outside word) l) (sym (ahead g c))
          ∙ c.loop-point.invariant.outside);
      state = state g c;
      cut = cut;
      left = rest;
    }
