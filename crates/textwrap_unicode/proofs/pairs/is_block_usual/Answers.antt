use Rattle.textwrap_text.proofs.ClassNames.{and_parts, and_from, cases_lt, get_or, arith, false, inl}
use Rattle.textwrap_text.proofs.ClassNames.{subst, refl, inr, not, sym, ◌+◌, ◌-◌, ◌∙◌, ◌≡◌, ap, ℕ}
use Rattle.textwrap_unicode.proofs.Common.{is_unusual, not-true}
use Rattle.textwrap_unicode.proofs.pairs.is_block_usual.Goals as goal

pub loop-offset-init : goal.loop-offset-init
loop-offset-init c = (λ _ k from below. absurd (omega (arith, from, below)), λ _. refl)

pub loop-offset-preserved : goal.loop-offset-preserved
loop-offset-preserved c =
    let text = c.args.text.now in
    let place = c.args.from + c.loop-offset.offset in
    let P : ℕ → Type 0 = λ j. is_unusual (get_or text (j - 1) 0) (get_or text j 0) ≡ false in (
      λ all k from below.
          let (before, here) = and_parts _ _ all in
          elim (cases_lt k place) [
            | inl less ↦ c.loop-offset.invariant.0 before k from less
            | inr at ↦
                let same : place ≡ k = omega (arith, at, below) in
                subst P same (sym c.is_unusual.ensures ∙ not-true _ here)
          ],
      λ none. and_from _ _
          (c.loop-offset.invariant.1 (λ k from below. none k from (omega (arith, below))))
          (ap not (c.is_unusual.ensures ∙ none place (omega arith) (omega arith))),
    )
