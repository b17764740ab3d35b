use Rattle.textwrap_base.proofs.first_fit.fitting_len.Given as goal
use Rattle.textwrap_text.proofs.Common.{◌≡◌, ◌<◌, ◌^◌, take}
use Rattle.textwrap_base.proofs.Common.{open_width, Fits}

abbrev pub invariant-loop-i : goal.invariant-loop-i
invariant-loop-i g l = (l.width ≡ open_width g.T.Fragment.sizes (take l.i l.fragments))
    × (l.width < 2 ^ 65) × Fits g.T.Fragment.sizes l.line_width (take l.i l.fragments)
