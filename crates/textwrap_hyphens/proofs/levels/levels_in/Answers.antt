use Rattle.std.proofs.Common.{take_all, take_at, All, ap, arith, drop, length, refl, subst, sym, ◌+◌, ◌∙◌}
use Rattle.std.proofs.Common.{◌≡◌, ℕ, [], List, length-append, ◌∷◌}
use Rattle.std.proofs.lemmas.List.{length-replicate, Elements.All-replicate}
use Rattle.textwrap_hyphens.proofs.{Common.levels_of, Parts.levels-length}
use Rattle.textwrap_hyphens.specs.{Levels.dot, Table.levels_by}
use Rattle.textwrap_hyphens.proofs.levels.levels_in.Goals as goal

pub raise_all-looked_up-requires-clause-zero : goal.raise_all-looked_up-requires-clause-zero
raise_all-looked_up-requires-clause-zero g c =
    let each = c.deref_mut.ensures.value ∙ c.in_ok-levels.ensures.items_if_clones_equal (λ y is. is) in
    subst (All (λ (level : ℕ). level ≡ 0)) (sym each)
    (All-replicate (λ (level : ℕ). level ≡ 0) (c.len.result + 1) 0 refl)

pub returns-clause-levels : goal.returns-clause-levels
returns-clause-levels g c =
    let items = c.in_ok-levels.levels.items in
    let new = c.raise_all-looked_up.new.levels in
    let old : List ℕ = c.deref_mut.result.now in
    let letters = c.args.letters.now in
    let all = levels_of (levels_by c.args.patterns.now) letters in
    let size : length old ≡ c.len.result + 1 =
    ap length (c.deref_mut.ensures.value ∙ c.in_ok-levels.ensures.items_if_clones_equal (λ y is. is))
    ∙ length-replicate {A = ℕ} (c.len.result + 1) 0 in
    take_at new (drop (length new) items) c.in_ok-levels.levels.len
    (omega (arith, c.in_ok-levels.levels.ok.0, ap length c.deref_mut.ensures.value, c.raise_all-looked_up.auto.levels))
    ∙ c.raise_all-looked_up.ensures.levels letters (c.deref.ensures.value ∙ c.in_ok-dotted.ensures)
    ∙ take_all (length old) all (omega (
      arith,
      levels-length (levels_by c.args.patterns.now) letters all refl,
      ap length c.in_ok-dotted.ensures,
      length-append letters (dot ∷ []),
    ))
