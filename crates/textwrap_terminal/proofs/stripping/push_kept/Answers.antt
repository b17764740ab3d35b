use Rattle.textwrap_terminal.proofs.Kept.{kept-none}
use Rattle.textwrap_terminal.proofs.stripping.push_kept.Goals as goal
use Rattle.textwrap_text.proofs.Common.{ap, append-nil, eqb-true, length, string_bytes, sym, ◌++◌}
use Rattle.textwrap_text.proofs.Common.{◌∙◌}

pub returns : goal.returns
returns g c = sym (c.loop-rest.invariant.whole ∙ ap (λ l. string_bytes c.loop-rest.plain ++ l)
    (kept-none c.loop-rest.rest.now
    (eqb-true (length c.loop-rest.rest.now) 0 (sym c.loop-rest-test.ensures)))
    ∙ append-nil (string_bytes c.loop-rest.plain))
