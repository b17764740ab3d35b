use Rattle.std.proofs.lemmas.Result.{IfOk-weaker}
use Rattle.textwrap_hyphens.proofs.OutsideHyphens.{hyphens-plain, outside-none, outside-of}
use Rattle.textwrap_hyphens.proofs.SplitPoints.{hyphens-inner, own-inner}
use Rattle.textwrap_hyphens.specs.Outside.{hyphens_outside, is_outside}
use Rattle.textwrap_text.proofs.Common.{ap, arith, filter, nil_from_length, subst, sym, ◌∙◌}
use Rattle.textwrap_words.proofs.{Common.AreInnerCuts, Word.Cuts.inner-cuts}
use Rattle.textwrap_words.specs.Cuts.{AreCuts}
use Rattle.textwrap_hyphens.proofs.outside.hyphens_outside.Goals.{then-is_empty-via-then-is_empty}
use Rattle.textwrap_hyphens.proofs.outside.hyphens_outside.Goals.{then-is_empty-via-else-is_empty+then-not-contains}
use Rattle.textwrap_hyphens.proofs.outside.hyphens_outside.Goals as goal

pub returns-then-is_empty-clause-points : goal.returns-then-is_empty-clause-points
returns-then-is_empty-clause-points g c =
    let word = c.args.word.now in
    let points = c.in_ok-hyphens.ensures.points in
    elim c.then-is_empty.branch [
      | then-is_empty-via-then-is_empty w ↦
          let none = nil_from_length c.in_ok-hyphens.hyphens.items (grind arith) in
          none ∙ outside-none word (sym points ∙ none)
      | then-is_empty-via-else-is_empty+then-not-contains w ↦
          points ∙ hyphens-plain word c.utf8.word (grind arith)
    ]

pub only_outside-requires : goal.only_outside-requires
only_outside-requires g c =
    subst (AreInnerCuts c.args.word.now) (sym (c.deref.ensures.value ∙ c.in_ok-hyphens.ensures.points))
    (hyphens-inner c.args.word.now c.utf8.word)

pub returns-clause-points : goal.returns-clause-points
returns-clause-points g c =
    let word = c.args.word.now in
    let found = c.deref.ensures.value ∙ c.in_ok-hyphens.ensures.points in
    IfOk-weaker c.only_outside.result _ _ (λ outside is.
    is ∙ ap (filter (is_outside word)) found ∙ outside-of word) c.only_outside.ensures

pub returns-clause-cuts : goal.returns-clause-cuts
returns-clause-cuts g c =
    let word = c.args.word.now in
    let found = c.deref.ensures.value ∙ c.in_ok-hyphens.ensures.points in
    IfOk-weaker c.only_outside.result _ _ (λ outside is.
    subst (AreCuts word) (sym (is ∙ ap (filter (is_outside word)) found ∙ outside-of word))
    (inner-cuts word (hyphens_outside word) (own-inner word c.utf8.word))) c.only_outside.ensures
