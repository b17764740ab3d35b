use Rattle.textwrap_terminal.proofs.Kept.{other-none}
use Rattle.textwrap_terminal.proofs.stripping.has_other.Goals as goal
use Rattle.textwrap_text.proofs.Common.{ap, eqb-true, length, not, sym, ◌∙◌}

pub returns : goal.returns
returns c = sym (ap not (c.loop-rest.invariant.same ∙ other-none c.loop-rest.rest.now
    (eqb-true (length c.loop-rest.rest.now) 0 (sym c.loop-rest-test.ensures))))
