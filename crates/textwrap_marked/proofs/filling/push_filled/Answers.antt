use Rattle.textwrap_marked.proofs.filling.push_filled.Goals as goal
use Rattle.textwrap_base.specs.declared.penalties.Penalties.{Penalties}
use Rattle.textwrap_marked.proofs.Common.{dividing_algorithm, marked_line_view, string_bytes, AreFilled}
use Rattle.textwrap_marked.proofs.Common.{subst, List, drop, refl, ◌++◌, map, sym, ◌∙◌, ◌≡◌, ap, ℕ}
use Rattle.textwrap_marked.proofs.LaidLemmas.{divided-filled, first-of}
use Rattle.textwrap_marks.specs.declared.options.Algorithm.TheVariants.{LeastCost, FirstFit}
use Rattle.textwrap_marks.specs.declared.options.Algorithm.{Algorithm}

neither : (a : Algorithm) → ((p : Penalties) → a ≡ LeastCost p → ⊥) → a ≡ FirstFit
neither FirstFit not = refl
neither (LeastCost p) not = absurd (not p refl)

pub returns-clause-filled : goal.returns-clause-filled
returns-clause-filled c =
    let options = c.args.options.now in
    let lines = c.args.lines.items in
    let first = c.first-item.result in
    let begins = first-of lines c.as_slice.result.now first c.as_slice.ensures.value
    c.in-len1-up.len_at_least c.first-item.is in
    let all = ap (map marked_line_view) c.deref.ensures.value ∙ begins in
    let behind = ap (map marked_line_view) c.deref-2.ensures.value ∙ begins in
    subst (λ ls. (text : List ℕ) × AreFilled options c.args.ending.now ls text
    × (string_bytes c.push_end.new.output ≡ string_bytes c.args.output.now ++ text)) (sym begins)
    (divided-filled options c.args.ending.now _ (marked_line_view first)
    (map marked_line_view (drop 1 lines)) _ _ _
    (ap dividing_algorithm (neither options.algorithm c.in_default.not-LeastCost))
    (rw all at c.in_ok-push_by_first_fit.ensures) (rw behind at c.in_ok-push_end.ensures))
