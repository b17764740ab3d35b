use Rattle.textwrap_hyphens.proofs.{Common.refl, Common.sym, Common.◌∙◌, Held.inner-is}
use Rattle.textwrap_hyphens.proofs.table.inner_places.Goals as goal

pub returns-then-are_inner : goal.returns-then-are_inner
returns-then-are_inner c =
    rw (sym (inner-is _ _ _ c.are_inner.ensures) ∙ c.if-are_inner.true) refl

pub returns-else-are_inner : goal.returns-else-are_inner
returns-else-are_inner c =
    rw (sym (inner-is _ _ _ c.are_inner.ensures) ∙ c.if-are_inner.false) refl
